use Rattle.capi_responder.specs.codec.Parts.{service_at}
use Rattle.capi_responder.proofs.codec.service_at.Goals as goal

pub returns : goal.returns
unfolding service_at
returns c = cc
