use Rattle.std.specs.Prelude.{None}
use Rattle.claims.specs.Time.{last_of}
use Rattle.claims.proofs.records.Filled.{filled}
use mathlib.Core.Path.{◌≡◌}
use Rattle.capi_responder.specs.codec.Parts.{sent_at}
use Rattle.capi_responder.proofs.codec.multicasts_at.Given as goal

abbrev pub invariant-loop-i : goal.invariant-loop-i
invariant-loop-i l = l.of ≡ filled (last_of None) (λ o. last_of (sent_at l.b o)) l.i
