use Prim.Native.Nat.{ℕ}
use native.Mathlib.Omega.{arith}
use mathlib.Core.Path.{sym, ap, ◌∙◌}
use Rattle.wire.specs.message.Layout.{list_from, question_at}
use Rattle.wire.specs.message.Places.{past_list}
use Rattle.wire.proofs.message.Ends.{list_none, ends_next, ends_bad}
use Rattle.wire.proofs.message.questions_end.Goals as goal

pub returns-in_err-here : goal.returns-in_err-here
returns-in_err-here c = c.from_residual.ensures ∙ sym (c.loop-read.invariant ∙ ends_bad (question_at c.args.p.now) _ _ _ (omega arith) c.past_question.ensures c.in_err-here.was)

pub loop-read-preserved : goal.loop-read-preserved
loop-read-preserved c = c.loop-read.invariant ∙ ends_next (question_at c.args.p.now) _ _ _ (omega arith) c.past_question.ensures _ c.in_ok-here.was ∙ ap (λ (n : ℕ). past_list (list_from (question_at c.args.p.now) n c.in_ok-here.here)) (omega arith)

pub returns : goal.returns
returns c = sym (c.loop-read.invariant ∙ ap past_list (list_none (question_at c.args.p.now) _ _ (omega arith)))
