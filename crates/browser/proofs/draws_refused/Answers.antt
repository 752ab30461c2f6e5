use Rattle.std.proofs.Common.{arith}
use Rattle.std.proofs.lemmas.Grind.{common_steps}
use Rattle.std.proofs.lemmas.Bool.Decides.{nat_tests}
use Rattle.browser.specs.Calls.{wrong_draws}
use Rattle.browser.proofs.draws_refused.Goals as goal

pub returns-then-draw-gt-MOST_DRAW : goal.returns-then-draw-gt-MOST_DRAW
unfolding wrong_draws
returns-then-draw-gt-MOST_DRAW c = grind (arith, common_steps, nat_tests)

pub returns-else-draw-gt-MOST_DRAW : goal.returns-else-draw-gt-MOST_DRAW
unfolding wrong_draws
returns-else-draw-gt-MOST_DRAW c = grind (arith, common_steps, nat_tests)
