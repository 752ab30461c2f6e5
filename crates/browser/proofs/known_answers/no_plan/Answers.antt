use mathlib.Core.Path.{refl}
use Rattle.browser.specs.known_answers.Plans.{empty_plan}
use Rattle.browser.proofs.known_answers.no_plan.Goals as goal

pub returns : goal.returns
unfolding empty_plan
returns c = refl
