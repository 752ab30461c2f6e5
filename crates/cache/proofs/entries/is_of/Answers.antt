use Rattle.std.proofs.Common.{arith}
use Rattle.std.proofs.lemmas.Grind.{common_steps}
use Rattle.std.proofs.lemmas.Bool.Decides.{nat_tests}
use Rattle.cache.specs.entries.Entries.{is_of}
use Rattle.cache.proofs.entries.is_of.Goals as goal

pub returns-then-len-name : goal.returns-then-len-name
unfolding is_of
returns-then-len-name c = grind (arith, common_steps, nat_tests, c.slot_of.ensures, c.part.ensures, c.same_name.ensures)

pub returns-else-len-name : goal.returns-else-len-name
unfolding is_of
returns-else-len-name c = grind (arith, common_steps, nat_tests)
