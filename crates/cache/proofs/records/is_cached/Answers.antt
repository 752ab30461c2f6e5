use Rattle.std.proofs.Common.{arith}
use Rattle.std.proofs.lemmas.Grind.{common_steps}
use Rattle.std.proofs.lemmas.Bool.Decides.{nat_tests}
use Rattle.cache.specs.entries.Cache.{cached_as}
use Rattle.cache.proofs.records.is_cached.Goals as goal

pub returns-then-class-ne1 : goal.returns-then-class-ne1
unfolding cached_as
returns-then-class-ne1 c = grind (arith, common_steps, nat_tests)

pub returns-in-1 : goal.returns-in-1
unfolding cached_as
returns-in-1 c = grind (arith, common_steps, nat_tests)

pub returns-in-47 : goal.returns-in-47
unfolding cached_as
returns-in-47 c = grind (arith, common_steps, nat_tests)

pub returns-in_default : goal.returns-in_default
unfolding cached_as
returns-in_default c = grind (arith, common_steps, nat_tests)
