use Rattle.capi_responder.specs.codec.Parts.{holds_at}
use Rattle.capi_responder.proofs.codec.holds_at.Goals as goal

pub returns : goal.returns
unfolding holds_at
returns c = cc
