use Rattle.std.proofs.Common.{arith}
use Rattle.std.proofs.lemmas.Grind.{common_steps}
use Rattle.std.proofs.lemmas.Bool.Decides.{nat_tests}
use Rattle.cache.specs.records.Heard.{is_flushing}
use Rattle.cache.proofs.records.is_flushing.Goals as goal

pub returns-then-h-ge32768 : goal.returns-then-h-ge32768
unfolding is_flushing
returns-then-h-ge32768 c = grind (arith, common_steps, nat_tests)

pub returns-else-h-ge32768 : goal.returns-else-h-ge32768
unfolding is_flushing
returns-else-h-ge32768 c = grind (arith, common_steps, nat_tests)
