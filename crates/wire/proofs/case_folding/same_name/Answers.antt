use native.Mathlib.Omega.{arith}
use mathlib.Core.Path.{sym, ◌∙◌}
use Rattle.wire.proofs.case_folding.Same.{same_front, turn_differ, turn_agree, same_end}
use Rattle.wire.proofs.case_folding.Equal.{same_lengths}
use Rattle.wire.proofs.case_folding.same_name.Goals as goal

pub returns-then-a-b : goal.returns-then-a-b
returns-then-a-b c = sym (same_lengths _ _ c.if-a-b.true)

pub loop-i-init : goal.loop-i-init
loop-i-init c = (c.same_front-i.ensures.within, same_front c.same_front-i.result _ _ c.same_front-i.ensures.same)

pub returns-then-not-same_letter : goal.returns-then-not-same_letter
returns-then-not-same_letter c = turn_differ _ _ _ (omega arith) (omega arith) c.loop-i.invariant.1 (sym c.same_letter.ensures ∙ c.if-not-same_letter.true)

pub loop-i-preserved : goal.loop-i-preserved
loop-i-preserved c = (omega arith, turn_agree _ _ _ (omega arith) (omega arith) c.loop-i.invariant.1 (sym c.same_letter.ensures ∙ c.if-not-same_letter.false))

pub returns : goal.returns
returns c = let a = c.args in
    sym (c.loop-i.invariant.1 ∙ same_end a.a.now a.b.now c.loop-i.i (omega arith) (omega arith))
