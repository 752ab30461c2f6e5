use Rattle.capi_browser.proofs.Told.{ticked-are}
use Rattle.capi_browser.proofs.ticked_numbers.Goals as goal

pub returns : goal.returns
returns c = ticked-are _ _ _ _ c.refusal_of.ensures c.length_of.ensures c.numbers_of.ensures
