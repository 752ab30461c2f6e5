use Rattle.claims.specs.records.Own.{all, index_of}
use Rattle.claims.proofs.records.Searched.{Every}
use Rattle.capi_responder.specs.codec.Layout as layout
use Rattle.capi_responder.specs.idle.Idle.{when_kept}
use Rattle.capi_responder.proofs.idle.multicasts_kept.Given as goal

abbrev pub invariant-loop-i : goal.invariant-loop-i
invariant-loop-i l = Every (λ o. when_kept l.b (layout.multicast (index_of o))) all l.i
