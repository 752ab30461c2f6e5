use Rattle.std.proofs.Common.{arith}
use Rattle.std.proofs.lemmas.Grind.{common_steps}
use Rattle.std.proofs.lemmas.Bool.Decides.{nat_tests}
use Rattle.browser.specs.Calls.{wrong_browser}
use Rattle.browser.proofs.browser_refused.Goals as goal

pub returns-then-not-labels_right : goal.returns-then-not-labels_right
unfolding wrong_browser
returns-then-not-labels_right c = grind (arith, common_steps, nat_tests)

pub returns-else-not-labels_right : goal.returns-else-not-labels_right
unfolding wrong_browser
returns-else-not-labels_right c = grind (arith, common_steps, nat_tests)
