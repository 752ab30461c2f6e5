use Rattle.std.proofs.Common.{arith}
use Rattle.std.proofs.lemmas.Grind.{common_steps}
use Rattle.std.proofs.lemmas.Bool.Decides.{nat_tests}
use Rattle.cache.specs.entries.Cache.{is_size}
use Rattle.cache.proofs.lookup.is_size.Goals as goal

pub returns-then-n-ge1 : goal.returns-then-n-ge1
unfolding is_size
returns-then-n-ge1 c = grind (arith, common_steps, nat_tests)

pub returns-else-n-ge1 : goal.returns-else-n-ge1
unfolding is_size
returns-else-n-ge1 c = grind (arith, common_steps, nat_tests)
