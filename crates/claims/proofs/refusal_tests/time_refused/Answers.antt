use Rattle.std.proofs.Common.{rules}
use Rattle.claims.specs.Refusals.{wrong_time}
use Rattle.claims.proofs.refusal_tests.time_refused.Goals as goal

pub returns-then-now-progress : goal.returns-then-now-progress
unfolding wrong_time
returns-then-now-progress c = search rules

pub returns-else-now-progress : goal.returns-else-now-progress
unfolding wrong_time
returns-else-now-progress c = search rules
