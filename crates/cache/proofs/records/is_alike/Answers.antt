use Rattle.std.proofs.Common.{arith}
use Rattle.std.proofs.lemmas.Grind.{common_steps}
use Rattle.std.proofs.lemmas.Bool.Decides.{nat_tests}
use Rattle.cache.specs.records.Heard.{is_alike}
use Rattle.cache.proofs.records.is_alike.Goals as goal

pub returns-then-e-h-2 : goal.returns-then-e-h-2
unfolding is_alike
returns-then-e-h-2 c = grind (arith, common_steps, nat_tests)

pub returns-else-e-h-2 : goal.returns-else-e-h-2
unfolding is_alike
returns-else-e-h-2 c = grind (arith, common_steps, nat_tests)
