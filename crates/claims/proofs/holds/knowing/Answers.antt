use Rattle.std.proofs.Common.{rules}
use Rattle.claims.specs.holds.Holds.{knowing}
use Rattle.claims.proofs.holds.knowing.Goals as goal

pub returns-then-is_from : goal.returns-then-is_from
unfolding knowing
returns-then-is_from c = search rules

pub returns-else-is_from : goal.returns-else-is_from
unfolding knowing
returns-else-is_from c = search rules
