use Rattle.capi_responder.specs.codec.Parts.{hold_at}
use Rattle.capi_responder.proofs.codec.hold_at.Goals as goal

pub returns : goal.returns
unfolding hold_at
returns c = cc
