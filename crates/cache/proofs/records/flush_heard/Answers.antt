use Rattle.std.proofs.Common.{arith}
use Rattle.std.proofs.lemmas.Grind.{common_steps}
use Rattle.std.proofs.lemmas.Bool.Decides.{nat_tests}
use Rattle.cache.specs.records.Heard.{flushed_heard}
use Rattle.cache.proofs.records.flush_heard.Goals as goal

pub returns-then-saturating_sub-le1000 : goal.returns-then-saturating_sub-le1000
unfolding flushed_heard
returns-then-saturating_sub-le1000 c = grind (arith, common_steps, nat_tests)

pub returns-then-not-is_live_heard : goal.returns-then-not-is_live_heard
unfolding flushed_heard
returns-then-not-is_live_heard c = grind (arith, common_steps, nat_tests)

pub returns : goal.returns
unfolding flushed_heard
returns c = grind (arith, common_steps, nat_tests)
