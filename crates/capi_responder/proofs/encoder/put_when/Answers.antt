use Rattle.capi_responder.proofs.encoder.Written.{case_as}
use Rattle.capi_responder.proofs.encoder.put_when.Goals as goal

pub returns : goal.returns
returns c = case_as c.put_case.ensures c.when_flag.ensures c.when_time.ensures
