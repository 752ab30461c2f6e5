use Rattle.std.proofs.Common.{arith}
use Rattle.std.proofs.lemmas.Grind.{common_steps}
use Rattle.std.proofs.lemmas.Bool.Decides.{nat_tests}
use Rattle.cache.specs.records.Heard.{is_taken}
use Rattle.cache.proofs.records.is_taken.Goals as goal

pub returns-then-h : goal.returns-then-h
unfolding is_taken
returns-then-h c = grind (arith, common_steps, nat_tests)

pub returns-else-h : goal.returns-else-h
unfolding is_taken
returns-else-h c = grind (arith, common_steps, nat_tests)
