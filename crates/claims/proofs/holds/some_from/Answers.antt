use Rattle.std.proofs.Common.{rules}
use Rattle.claims.specs.holds.Holds.{some_from}
use Rattle.claims.specs.records.Sets.{some_of}
use Rattle.claims.proofs.holds.some_from.Goals as goal

pub returns-then-is_from-3 : goal.returns-then-is_from-3
unfolding some_from some_of
returns-then-is_from-3 c = search rules

pub returns-else-is_from-3 : goal.returns-else-is_from-3
unfolding some_from some_of
returns-else-is_from-3 c = search rules
