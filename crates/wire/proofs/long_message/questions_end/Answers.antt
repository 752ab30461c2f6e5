use Prim.Native.Nat.{ℕ}
use mathlib.Core.Path.{sym, ap, ◌∙◌}
use native.Mathlib.Omega.{arith}
use Rattle.wire.specs.message.Layout.{list_from, question_at}
use Rattle.wire.specs.message.Places.{past_list}
use Rattle.wire.proofs.message.Ends.{list_none, ends_next, ends_bad}
use Rattle.wire.proofs.long_message.questions_end.Goals as goal

pub loop-read-init : goal.loop-read-init
loop-read-init c = (ap (λ (n : ℕ). past_list (list_from (question_at c.args.p.now) n c.args.at)) (omega arith), c.requires.noted)

pub past_question-requires : goal.past_question-requires
past_question-requires c = record { p_len_bound = omega arith; noted = c.loop-read.invariant.1 }

pub returns-in_err-here : goal.returns-in_err-here
returns-in_err-here c = record { answer = c.from_residual.ensures ∙ sym (c.loop-read.invariant.0 ∙ ends_bad (question_at c.args.p.now) _ _ _ (omega arith) c.past_question.ensures.answer c.in_err-here.was); notes = c.past_question.ensures.notes }

pub loop-read-preserved : goal.loop-read-preserved
loop-read-preserved c = (
  c.loop-read.invariant.0 ∙ ends_next (question_at c.args.p.now) _ _ _ (omega arith) c.past_question.ensures.answer _ c.in_ok-here.was ∙ ap (λ (n : ℕ). past_list (list_from (question_at c.args.p.now) n c.in_ok-here.here)) (omega arith),
  c.past_question.ensures.notes,
)

pub returns : goal.returns
returns c = record { answer = sym (c.loop-read.invariant.0 ∙ ap past_list (list_none (question_at c.args.p.now) _ _ (omega arith))); notes = c.loop-read.invariant.1 }
