use Rattle.std.specs.Prelude.{None}
use Rattle.claims.specs.Time.{last_of}
use Rattle.claims.specs.declared.Multicast.{Multicast}
use Rattle.claims.proofs.records.Filled.{none_filled, next_filled, all-filled}
use mathlib.Core.Path.{ap, ◌∙◌}
use mathlib.Core.List.{List}
use native.Mathlib.Omega.{arith}
use Rattle.capi_responder.specs.codec.Parts.{sent_at, multicasts_at}
use Rattle.capi_responder.proofs.codec.multicasts_at.Goals as goal

pub loop-i-init : goal.loop-i-init
loop-i-init c = none_filled (last_of None) _

pub loop-i-preserved : goal.loop-i-preserved
loop-i-preserved c = next_filled (last_of None) _ _ _ _ c.loop-i.invariant (ap last_of (c.sent_at-last.ensures ∙ ap (sent_at c.args.b.now) c.record_at.ensures))

pub returns : goal.returns
unfolding multicasts_at
returns c = ap (λ (l : List Multicast). record { of = l }) (all-filled (last_of None) _ _ _ (omega arith) (omega arith) c.loop-i.invariant)
