use Rattle.capi_browser.proofs.Told.{browser_is}
use Rattle.capi_browser.proofs.browser_of.Goals as goal

pub returns : goal.returns
returns c = browser_is _ _ c.owed_of.ensures
