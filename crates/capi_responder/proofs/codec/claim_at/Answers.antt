use Rattle.capi_responder.specs.codec.Parts.{claim_at}
use Rattle.capi_responder.proofs.codec.claim_at.Goals as goal

pub returns : goal.returns
unfolding claim_at
returns c = cc
