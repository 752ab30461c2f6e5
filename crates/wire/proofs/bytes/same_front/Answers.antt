use Rattle.std.proofs.Common.{rules}
use native.Mathlib.Omega.{arith}
use mathlib.Core.Path.{refl, sym, ap, ◌∙◌}
use mathlib.Core.List.{List}
use Prim.Native.Nat.{ℕ}
use Rattle.wire.specs.bytes.Eight.{eight_at}
use Rattle.wire.proofs.bytes.Front.{past8}
use Rattle.wire.proofs.bytes.same_front.Goals as goal

pub loop-i-init : goal.loop-i-init
loop-i-init c = (search rules, search rules, refl)

pub returns-then-eight : goal.returns-then-eight
returns-then-eight c = let x = c.eight.ensures in
    let y = c.eight-in-loop-i.ensures in
    let i = c.loop-i.i in
    record { within = omega arith; same = c.loop-i.invariant.2; next = λ l e. c.if-eight.true (x.0 ∙ ap (λ (s : List ℕ). eight_at s i) e ∙ sym y.0) }

pub loop-i-preserved : goal.loop-i-preserved
loop-i-preserved c = let x = c.eight.ensures in
    let y = c.eight-in-loop-i.ensures in (
      omega arith,
      omega arith,
      past8 _ _ x.1 y.1 c.loop-i.i (omega arith) (omega arith) (sym x.0 ∙ c.if-eight.false ∙ y.0) c.loop-i.invariant.2,
    )

pub returns : goal.returns
returns c = record { within = omega arith; same = c.loop-i.invariant.2; next = λ l e. omega (arith, l) }
