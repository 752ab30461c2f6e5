use mathlib.Core.Path.{◌∙◌}
use Prim.Native.Nat.{◌+◌, ◌-◌}
use native.Mathlib.Omega.{arith}
use Rattle.own.specs.utf8.Utf8.{owing, is_shown}
use Rattle.own.proofs.utf8.Characters.{cut, owed_stop, owed_on}
use Rattle.own.proofs.utf8.with_owed.Goals as goal

pub returns-then-s-i : goal.returns-then-s-i
returns-then-s-i c = let a = c.args in
    (omega arith, cut a.s.now a.i a.next (omega arith) (omega arith))

pub returns-then-not-is_within : goal.returns-then-not-is_within
returns-then-not-is_within c = let a = c.args in
    (omega arith, owed_stop a.s.now (a.i + 1) (omega arith) a.next (omega arith) _ c.is_within.ensures (c.if-not-is_within.true))

pub returns-then-owed-eq1 : goal.returns-then-owed-eq1
unfolding is_shown
returns-then-owed-eq1 c = let a = c.args in
    (omega arith, owed_on a.s.now (a.i + 1) (omega arith) a.next (omega arith) _ c.is_within.ensures (c.if-not-is_within.false) 0 (a.i + 2) (omega arith) (omega arith))

pub returns-then-not-is_within-2 : goal.returns-then-not-is_within-2
returns-then-not-is_within-2 c = let a = c.args in (
  omega arith,
  owed_on a.s.now (a.i + 1) (omega arith) a.next (omega arith) _ c.is_within.ensures (c.if-not-is_within.false) (a.next.owed - 1) (a.i + 2) (omega arith) (omega arith)
      ∙ owed_stop a.s.now (a.i + 2) (omega arith) (owing (a.next.owed - 1) 0x80 0xBF) (omega arith) _ c.is_within-2.ensures (c.if-not-is_within-2.true),
)

pub returns-then-owed-eq2 : goal.returns-then-owed-eq2
unfolding is_shown
returns-then-owed-eq2 c = let a = c.args in (
  omega arith,
  owed_on a.s.now (a.i + 1) (omega arith) a.next (omega arith) _ c.is_within.ensures (c.if-not-is_within.false) 1 (a.i + 2) (omega arith) (omega arith)
      ∙ owed_on a.s.now (a.i + 2) (omega arith) (owing 1 0x80 0xBF) (omega arith) _ c.is_within-2.ensures (c.if-not-is_within-2.false) 0 (a.i + 3) (omega arith) (omega arith),
)

pub returns-then-not-is_within-3 : goal.returns-then-not-is_within-3
returns-then-not-is_within-3 c = let a = c.args in (
  omega arith,
  owed_on a.s.now (a.i + 1) (omega arith) a.next (omega arith) _ c.is_within.ensures (c.if-not-is_within.false) (a.next.owed - 1) (a.i + 2) (omega arith) (omega arith)
      ∙ owed_on a.s.now (a.i + 2) (omega arith) (owing (a.next.owed - 1) 0x80 0xBF) (omega arith) _ c.is_within-2.ensures (c.if-not-is_within-2.false) (a.next.owed - 2) (a.i + 3) (omega arith) (omega arith)
      ∙ owed_stop a.s.now (a.i + 3) (omega arith) (owing (a.next.owed - 2) 0x80 0xBF) (omega arith) _ c.is_within-3.ensures (c.if-not-is_within-3.true),
)

pub returns : goal.returns
unfolding is_shown
returns c = let a = c.args in (
  omega arith,
  owed_on a.s.now (a.i + 1) (omega arith) a.next (omega arith) _ c.is_within.ensures (c.if-not-is_within.false) 2 (a.i + 2) (omega arith) (omega arith)
      ∙ owed_on a.s.now (a.i + 2) (omega arith) (owing 2 0x80 0xBF) (omega arith) _ c.is_within-2.ensures (c.if-not-is_within-2.false) 1 (a.i + 3) (omega arith) (omega arith)
      ∙ owed_on a.s.now (a.i + 3) (omega arith) (owing 1 0x80 0xBF) (omega arith) _ c.is_within-3.ensures (c.if-not-is_within-3.false) 0 (a.i + 4) (omega arith) (omega arith),
)
