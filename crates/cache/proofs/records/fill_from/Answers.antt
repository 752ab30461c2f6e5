use Rattle.std.proofs.Common.{arith}
use Rattle.std.proofs.lemmas.Grind.{common_steps}
use Rattle.std.proofs.lemmas.Bool.Decides.{nat_tests}
use Rattle.cache.specs.records.Heard.{is_filling}
use Rattle.cache.proofs.records.fill_from.Goals as goal

pub returns-then-equal-n : goal.returns-then-equal-n
unfolding is_filling
returns-then-equal-n c = grind (arith, common_steps, nat_tests)

pub returns : goal.returns
unfolding is_filling
returns c = grind (arith, common_steps, nat_tests)
