use Rattle.std.proofs.Common.{rules}
use Rattle.claims.specs.Claims.{begun_at}
use Rattle.claims.proofs.start.Goals as goal

pub returns : goal.returns
unfolding begun_at
returns c = search rules
