use Rattle.claims.specs.records.Own.{index_of}
use Rattle.claims.proofs.records.Filled.{filled}
use Prim.Native.Nat.{◌+◌}
use mathlib.Core.Path.{◌≡◌}
use mathlib.Core.Bool.{false}
use Rattle.capi_responder.specs.codec.Parts.{flag_at}
use Rattle.capi_responder.proofs.codec.set_at.Given as goal

abbrev pub invariant-loop-i : goal.invariant-loop-i
invariant-loop-i l = l.flags ≡ filled false (λ o. flag_at l.b (l.at + index_of o)) l.i
