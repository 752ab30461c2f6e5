use mathlib.Core.Path.{◌∙◌}
use native.Mathlib.Omega.{arith}
use Rattle.wire.proofs.message.Fields.{question-bad, question-short, question-found}
use Rattle.wire.proofs.message.question_at.Goals as goal

pub returns-then-p-end : goal.returns-then-p-end
returns-then-p-end c = question-short _ _ _ c.name_at.ensures _ c.in_ok-span.was (omega arith)

pub returns : goal.returns
returns c = question-found _ _ _ c.name_at.ensures _ c.in_ok-span.was _ _ c.be16.ensures c.be16-2.ensures (omega arith)

pub returns-in_err-span : goal.returns-in_err-span
returns-in_err-span c = c.from_residual.ensures ∙ question-bad _ _ _ c.name_at.ensures c.in_err-span.was
