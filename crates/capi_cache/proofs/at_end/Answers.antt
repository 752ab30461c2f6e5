use Rattle.std.proofs.Common.{arith}
use Rattle.std.proofs.lemmas.Grind.{common_steps}
use Rattle.std.proofs.lemmas.Bool.Decides.{nat_tests}
use Rattle.capi_cache.specs.Refusals.{ended}
use Rattle.capi_cache.proofs.at_end.Goals as goal

pub returns-then-time-gt-LATEST : goal.returns-then-time-gt-LATEST
unfolding ended
returns-then-time-gt-LATEST c = grind (arith, common_steps, nat_tests)

pub returns-then-not-is_size : goal.returns-then-not-is_size
unfolding ended
returns-then-not-is_size c = grind (arith, common_steps, nat_tests)

pub returns : goal.returns
unfolding ended
returns c = grind (arith, common_steps, nat_tests)
