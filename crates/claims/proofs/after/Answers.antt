use Rattle.std.proofs.Common.{rules}
use Rattle.claims.specs.Time.{after_ms}
use Rattle.claims.proofs.after.Goals as goal

pub returns : goal.returns
unfolding after_ms
returns c = search rules
