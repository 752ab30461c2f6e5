use Rattle.claims.specs.records.Own.{has}
use Rattle.claims.proofs.records.Filled.{filled}
use mathlib.Core.Path.{◌≡◌}
use Rattle.capi_responder.specs.codec.Codec.{flag_byte}
use Rattle.capi_responder.proofs.encoder.set_bytes.Given as goal

abbrev pub invariant-loop-i : goal.invariant-loop-i
invariant-loop-i l = l.flags ≡ filled 0 (λ o. flag_byte (has o l.set)) l.i
