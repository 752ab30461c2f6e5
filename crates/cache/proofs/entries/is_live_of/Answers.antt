use Rattle.std.proofs.Common.{arith}
use Rattle.std.proofs.lemmas.Grind.{common_steps}
use Rattle.std.proofs.lemmas.Bool.Decides.{nat_tests}
use Rattle.cache.specs.entries.Entries.{is_of, live_of}
use Rattle.cache.proofs.entries.is_live_of.Goals as goal

pub returns-then-is_live : goal.returns-then-is_live
unfolding live_of is_of
returns-then-is_live c = grind (arith, common_steps, nat_tests)

pub returns-else-is_live : goal.returns-else-is_live
unfolding live_of is_of
returns-else-is_live c = grind (arith, common_steps, nat_tests)
