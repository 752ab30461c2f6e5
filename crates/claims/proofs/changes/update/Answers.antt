use Rattle.std.proofs.Common.{rules}
use Rattle.claims.specs.changes.Changes.{update_of}
use Rattle.claims.proofs.changes.update.Goals as goal

pub returns : goal.returns
unfolding update_of
returns c = search rules
