use Rattle.capi_browser.proofs.Told.{service-laid}
use Rattle.capi_browser.proofs.service_of.Goals as goal

pub returns : goal.returns
returns c = service-laid _ _ c.put.ensures
