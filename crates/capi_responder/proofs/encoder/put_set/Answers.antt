use Rattle.capi_responder.proofs.encoder.Parts.{laid_as}
use Rattle.capi_responder.proofs.encoder.put_set.Goals as goal

pub returns : goal.returns
returns c = laid_as c.put.ensures c.set_bytes.ensures
