use Rattle.std.proofs.Common.{rules}
use Rattle.claims.specs.changes.Changes.{forgetting_all}
use Rattle.claims.proofs.changes.forget_all.Goals as goal

pub returns : goal.returns
unfolding forgetting_all
returns c = search rules
