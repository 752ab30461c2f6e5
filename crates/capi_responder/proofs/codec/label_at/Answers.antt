use Rattle.capi_responder.specs.codec.Parts.{label_at}
use Rattle.capi_responder.proofs.codec.label_at.Goals as goal

pub returns : goal.returns
unfolding label_at
returns c = cc
