use Rattle.std.proofs.Common.{arith}
use Rattle.std.proofs.lemmas.Grind.{common_steps}
use Rattle.std.proofs.lemmas.Bool.Decides.{nat_tests}
use Rattle.browser.specs.Steps.{asked_start}
use Rattle.browser.proofs.asked_start.Goals as goal

pub returns-then-time-next : goal.returns-then-time-next
unfolding asked_start
returns-then-time-next c = grind (arith, common_steps, nat_tests)

pub returns-else-time-next : goal.returns-else-time-next
unfolding asked_start
returns-else-time-next c = grind (arith, common_steps, nat_tests)
