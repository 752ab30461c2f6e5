use Rattle.std.proofs.Common.{arith}
use Rattle.std.proofs.lemmas.Grind.{common_steps}
use Rattle.std.proofs.lemmas.Bool.Decides.{nat_tests}
use Rattle.cache.specs.records.Heard.{may_hold}
use Rattle.cache.proofs.records.may_hold.Goals as goal

pub returns-then-is_alike : goal.returns-then-is_alike
unfolding may_hold
returns-then-is_alike c = grind (arith, common_steps, nat_tests)

pub returns-else-is_alike : goal.returns-else-is_alike
unfolding may_hold
returns-else-is_alike c = grind (arith, common_steps, nat_tests)
