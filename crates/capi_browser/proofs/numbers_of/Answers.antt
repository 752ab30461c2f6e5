use Rattle.capi_browser.proofs.Told.{numbers-are}
use Rattle.capi_browser.proofs.numbers_of.Goals as goal

pub returns : goal.returns
returns c = numbers-are _ _ c.owed_number.ensures
