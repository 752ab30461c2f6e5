use Rattle.std.proofs.Common.{arith}
use Rattle.std.proofs.lemmas.Grind.{common_steps}
use Rattle.std.proofs.lemmas.Bool.Decides.{nat_tests}
use Rattle.browser.specs.refresh.Refresh.{may_ask}
use Rattle.browser.proofs.refresh.may_ask.Goals as goal

pub returns-then-b-ne0 : goal.returns-then-b-ne0
unfolding may_ask
returns-then-b-ne0 c = grind (arith, common_steps, nat_tests)

pub returns-else-b-ne0 : goal.returns-else-b-ne0
unfolding may_ask
returns-else-b-ne0 c = grind (arith, common_steps, nat_tests)
