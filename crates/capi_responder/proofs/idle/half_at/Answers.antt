use mathlib.Core.Path.{◌≡◌, ap}
use Prim.Native.Nat.{ℕ, ◌+◌}
use lib.ListN.{get_or}
use native.Mathlib.Omega.{arith}
use Rattle.capi_responder.proofs.idle.half_at.Goals as goal

pub returns : goal.returns
returns c = let a = c.args in
    let k : a.at + 3 ≡ a.at + 2 + 1 = omega arith in
    let e : get_or a.b.now (a.at + 3) 0 ≡ get_or a.b.now (a.at + 2 + 1) 0 = ap (λ (j : ℕ). get_or a.b.now j 0) k in
    (omega arith, omega arith)
