use Rattle.std.proofs.Common.{arith}
use Rattle.std.proofs.lemmas.Grind.{common_steps}
use Rattle.std.proofs.lemmas.Bool.Decides.{nat_tests}
use Rattle.cache.specs.records.Heard.{live_heard, is_of_heard, is_alike}
use Rattle.cache.proofs.records.is_live_heard.Goals as goal

pub returns-then-is_alike : goal.returns-then-is_alike
unfolding live_heard is_of_heard is_alike
returns-then-is_alike c = grind (arith, common_steps, nat_tests)

pub returns-else-is_alike : goal.returns-else-is_alike
unfolding live_heard is_of_heard is_alike
returns-else-is_alike c = grind (arith, common_steps, nat_tests)
