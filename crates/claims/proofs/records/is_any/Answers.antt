use Rattle.claims.specs.records.Sets.{any_of, some_of}
use Rattle.std.proofs.Common.{rules}
use Rattle.claims.proofs.records.is_any.Goals as goal

pub returns-then-set-6 : goal.returns-then-set-6
unfolding any_of some_of
returns-then-set-6 c = search rules

pub returns-else-set-6 : goal.returns-else-set-6
unfolding any_of some_of
returns-else-set-6 c = search rules
