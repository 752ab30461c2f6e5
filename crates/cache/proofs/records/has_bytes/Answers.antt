use Rattle.std.proofs.Common.{arith}
use Rattle.std.proofs.lemmas.Grind.{common_steps}
use Rattle.std.proofs.lemmas.Bool.Decides.{nat_tests}
use Rattle.cache.specs.records.Heard.{has_bytes}
use Rattle.cache.proofs.records.has_bytes.Goals as goal

pub returns-then-same_bytes : goal.returns-then-same_bytes
unfolding has_bytes
returns-then-same_bytes c = grind (arith, common_steps, nat_tests)

pub returns-else-same_bytes : goal.returns-else-same_bytes
unfolding has_bytes
returns-else-same_bytes c = grind (arith, common_steps, nat_tests)
