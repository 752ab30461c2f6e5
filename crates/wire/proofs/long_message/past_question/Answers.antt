use mathlib.Core.Path.{◌∙◌}
use native.Mathlib.Omega.{arith}
use Rattle.wire.proofs.long_message.Rdata.{no_question, question-short, question-past}
use Rattle.wire.proofs.long_message.past_question.Goals as goal

pub returns-then-p-end : goal.returns-then-p-end
returns-then-p-end c = record { answer = question-short _ _ _ c.past_name.ensures.answer _ c.in_ok-end.was (omega arith); notes = c.past_name.ensures.notes }

pub returns : goal.returns
returns c = record { answer = question-past _ _ _ c.past_name.ensures.answer _ c.in_ok-end.was (omega arith); notes = c.past_name.ensures.notes }

pub returns-in_err-end : goal.returns-in_err-end
returns-in_err-end c = record { answer = c.from_residual.ensures ∙ no_question _ _ _ c.past_name.ensures.answer c.in_err-end.was; notes = c.past_name.ensures.notes }
