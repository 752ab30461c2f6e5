use Rattle.capi_responder.proofs.encoder.Written.{holds-laid}
use Rattle.capi_responder.proofs.encoder.put_holds.Goals as goal

pub returns : goal.returns
returns c = holds-laid _
    c.put_hold.ensures
    c.put_hold-2.ensures
    c.put_hold-3.ensures
    c.put_hold-4.ensures
