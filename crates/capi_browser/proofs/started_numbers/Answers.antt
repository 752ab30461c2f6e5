use Rattle.capi_browser.proofs.Told.{started-are}
use Rattle.capi_browser.proofs.started_numbers.Goals as goal

pub returns : goal.returns
returns c = started-are _ _ _ c.refusal_of.ensures c.numbers_of.ensures
