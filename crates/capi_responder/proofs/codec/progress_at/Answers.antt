use Rattle.capi_responder.specs.codec.Parts.{progress_at}
use Rattle.capi_responder.proofs.codec.progress_at.Goals as goal

pub returns : goal.returns
unfolding progress_at
returns c = cc
