use mathlib.Core.Path.{refl}
use Rattle.browser.specs.Calls.{resumed}
use Rattle.browser.proofs.resume.Goals as goal

pub returns : goal.returns
unfolding resumed
returns c = refl
