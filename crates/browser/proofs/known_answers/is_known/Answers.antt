use Rattle.std.proofs.Common.{arith}
use Rattle.std.proofs.lemmas.Grind.{common_steps}
use Rattle.std.proofs.lemmas.Bool.Decides.{nat_tests}
use Rattle.browser.specs.known_answers.Known.{is_known}
use Rattle.browser.proofs.known_answers.is_known.Goals as goal

pub returns-then-e-time : goal.returns-then-e-time
unfolding is_known
returns-then-e-time c = grind (arith, common_steps, nat_tests)

pub returns-else-e-time : goal.returns-else-e-time
unfolding is_known
returns-else-e-time c = grind (arith, common_steps, nat_tests)
