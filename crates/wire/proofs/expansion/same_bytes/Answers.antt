use mathlib.Core.Path.{sym}
use native.Mathlib.Omega.{arith}
use Rattle.wire.proofs.expansion.Bytes.{not_equal, same_lengths, same_front, turn_differ, turn_agree, same_end}
use Rattle.wire.proofs.expansion.same_bytes.Goals as goal

pub returns-then-a-b : goal.returns-then-a-b
returns-then-a-b c = sym (same_lengths _ _ c.if-a-b.true)

pub overflow_sub-a : goal.overflow_sub-a
overflow_sub-a c = omega (arith, c.same_front-same.ensures.within)

pub returns-then-a-same-ge8 : goal.returns-then-a-same-ge8
returns-then-a-same-ge8 c = not_equal _ _ (c.same_front-same.ensures.next (omega arith))

pub loop-i-init : goal.loop-i-init
loop-i-init c = (omega arith, c.same_front-same.ensures.within, same_front c.same_front-same.result _ _ c.same_front-same.ensures.same)

pub returns-then-a-i : goal.returns-then-a-i
returns-then-a-i c = turn_differ _ _ c.loop-i.i (omega arith) (omega arith) c.loop-i.invariant.2 c.if-a-i.true

pub loop-i-preserved : goal.loop-i-preserved
loop-i-preserved c = (omega arith, omega arith, turn_agree _ _ c.loop-i.i (omega arith) (omega arith) c.loop-i.invariant.2 c.if-a-i.false)

pub returns : goal.returns
returns c = same_end _ _ c.loop-i.i (omega arith) (omega arith) c.loop-i.invariant.2
