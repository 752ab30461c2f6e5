use Rattle.std.proofs.Common.{rules}
use Rattle.claims.specs.changes.Changes.{announced_of}
use Rattle.claims.proofs.changes.announced.Goals as goal

pub returns-then-is_held : goal.returns-then-is_held
unfolding announced_of
returns-then-is_held c = search rules

pub returns-else-is_held : goal.returns-else-is_held
unfolding announced_of
returns-else-is_held c = search rules
