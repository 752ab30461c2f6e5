use mathlib.Core.Path.{refl}
use Rattle.browser.specs.Calls.{blank}
use Rattle.browser.proofs.blank_browser.Goals as goal

pub returns : goal.returns
unfolding blank
returns c = refl
