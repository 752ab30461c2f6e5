use Rattle.std.proofs.Common.{arith}
use Rattle.std.proofs.lemmas.Grind.{common_steps}
use Rattle.std.proofs.lemmas.Bool.Decides.{nat_tests}
use Rattle.browser.specs.Calls.{wrong_time}
use Rattle.browser.proofs.time_refused.Goals as goal

pub returns-then-b-gt-LAST_KEPT-2 : goal.returns-then-b-gt-LAST_KEPT-2
unfolding wrong_time
returns-then-b-gt-LAST_KEPT-2 c = grind (arith, common_steps, nat_tests)

pub returns-else-b-gt-LAST_KEPT-2 : goal.returns-else-b-gt-LAST_KEPT-2
unfolding wrong_time
returns-else-b-gt-LAST_KEPT-2 c = grind (arith, common_steps, nat_tests)
