use mathlib.Core.Path.{◌≡◌, refl, sym, ap, ◌∙◌}
use Prim.Native.Nat.{ℕ, ◌<◌}
use native.Mathlib.Omega.{arith}
use lib.ListN.{length, take}
use lib.Seq.{sets}
use Rattle.wire.proofs.octets.Sets.{sets_more}
use Rattle.wire.proofs.buffer.Past.{sets-past, sets-room_for}
use Rattle.wire.proofs.buffer.put.Goals as goal

pub returns-then-out-at : goal.returns-then-out-at
returns-then-out-at c = let a = c.args in sym (sets-past a.out.now a.at a.s.now c.if-out-at.true)

pub loop-i-init : goal.loop-i-init
loop-i-init c = refl

pub loop-i-preserved : goal.loop-i-preserved
loop-i-preserved c = let l = c.loop-i in
    let a = c.args in
    let within : l.i < length a.s.now = omega (arith, c.min-n.ensures, c.loop-i-test.true) in
    rw l.invariant (sets_more a.out.now a.at a.s.now l.i within)

pub returns : goal.returns
returns c = let a = c.args in
    let n = c.min-n.result in
    let e : c.loop-i.i ≡ n = omega arith in
    c.loop-i.invariant
    ∙ ap (λ (k : ℕ). sets a.out.now a.at (take k a.s.now)) e
    ∙ sets-room_for a.out.now a.at a.s.now n (omega arith) c.min-n.ensures
