use Rattle.std.proofs.Common.{rules}
use Rattle.claims.specs.Refusals.{kept}
use Rattle.claims.proofs.refusal_tests.is_kept.Goals as goal

pub returns-then-is_within-2 : goal.returns-then-is_within-2
unfolding kept
returns-then-is_within-2 c = search rules

pub returns-else-is_within-2 : goal.returns-else-is_within-2
unfolding kept
returns-else-is_within-2 c = search rules
