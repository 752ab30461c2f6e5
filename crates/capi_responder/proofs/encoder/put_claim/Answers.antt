use Rattle.capi_responder.proofs.encoder.Written.{case_as}
use Rattle.capi_responder.proofs.encoder.put_claim.Goals as goal

pub returns : goal.returns
returns c = case_as c.put_case.ensures c.claim_tag.ensures c.claim_due.ensures
