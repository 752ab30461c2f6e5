use Rattle.claims.specs.declared.records.Own.{Own}
use Rattle.claims.specs.records.Own.{has}
use Rattle.claims.proofs.records.Filled.{none_filled, next_filled, all-filled}
use mathlib.Core.Path.{ap, ◌∙◌}
use native.Mathlib.Omega.{arith}
use Rattle.capi_responder.specs.codec.Codec.{flag_byte, set_bytes}
use Rattle.capi_responder.proofs.encoder.set_bytes.Goals as goal

pub loop-i-init : goal.loop-i-init
loop-i-init c = none_filled 0 _

pub loop-i-preserved : goal.loop-i-preserved
loop-i-preserved c = next_filled 0 _ _ _ _ c.loop-i.invariant (c.flag_byte.ensures ∙ ap (λ (o : Own). flag_byte (has o c.args.set)) c.record_at.ensures)

pub returns : goal.returns
unfolding set_bytes
returns c = all-filled 0 _ _ _ (omega arith) (omega arith) c.loop-i.invariant
