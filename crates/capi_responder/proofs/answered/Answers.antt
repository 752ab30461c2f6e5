use Rattle.capi_responder.proofs.answered.Goals as goal

pub returns : goal.returns
returns c = cc
