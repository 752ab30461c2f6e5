use Rattle.std.proofs.Common.{rules}
use Rattle.claims.specs.changes.Changes.{stop_of}
use Rattle.claims.proofs.changes.stop.Goals as goal

pub returns : goal.returns
unfolding stop_of
returns c = search rules
