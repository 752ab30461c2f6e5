use Rattle.std.proofs.Common.{arith}
use Rattle.std.proofs.lemmas.Grind.{common_steps}
use Rattle.std.proofs.lemmas.Bool.Decides.{nat_tests}
use Rattle.cache.specs.entries.Entries.{soon}
use Rattle.cache.proofs.entries.to_expire.Goals as goal

pub returns-then-e-time : goal.returns-then-e-time
unfolding soon
returns-then-e-time c = grind (arith, common_steps, nat_tests)

pub returns : goal.returns
unfolding soon
returns c = grind (arith, common_steps, nat_tests)
