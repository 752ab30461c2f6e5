use Rattle.capi_responder.proofs.encoder.Written.{hold-laid}
use Rattle.capi_responder.proofs.encoder.put_hold.Goals as goal

pub returns : goal.returns
returns c = hold-laid _
    c.put_number.ensures
    c.put_number-2.ensures
    c.put_when.ensures
    c.put_set.ensures
    c.put_set-2.ensures
