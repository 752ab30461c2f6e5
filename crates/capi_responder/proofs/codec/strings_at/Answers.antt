use Rattle.capi_responder.specs.codec.Parts.{strings_at}
use Rattle.capi_responder.proofs.codec.strings_at.Goals as goal

pub returns : goal.returns
unfolding strings_at
returns c = cc
