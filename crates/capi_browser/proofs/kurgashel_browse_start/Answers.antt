use Rattle.capi_browser.proofs.Told.{begun-are}
use Rattle.capi_browser.proofs.kurgashel_browse_start.Goals as goal

pub returns : goal.returns
returns c = begun-are c.args.service.now c.args.protocol.now c.args.domain.now _ _ _ _ _ _ _ _
    c.service_of.ensures c.protocol_of.ensures c.domain_of.ensures
    c.start.ensures.answer c.started_numbers.ensures
