use Rattle.capi_responder.proofs.encoder.Written.{progress_laid}
use native.Mathlib.Omega.{arith}
use Rattle.capi_responder.proofs.encoder.lay_progress.Goals as goal

pub put_number-requires-2 : goal.put_number-requires-2
put_number-requires-2 c = omega (
  arith,
  c.put_number.ensures.0.long,
  c.put_holds.ensures.0.long,
  c.put_when-2.ensures.0.long,
  c.put_when.ensures.0.long,
  c.put_multicasts.ensures.0.long,
  c.put_claim-2.ensures.0.long,
  c.put_claim.ensures.0.long,
  c.requires,
)

pub returns : goal.returns
returns c = progress_laid _
    c.put_claim.ensures
    c.put_claim-2.ensures
    c.put_multicasts.ensures
    c.put_when.ensures
    c.put_when-2.ensures
    c.put_holds.ensures
    c.put_number.ensures
    c.put_number-2.ensures
