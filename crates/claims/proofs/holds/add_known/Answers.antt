use Rattle.std.proofs.Common.{rules}
use Rattle.claims.specs.holds.Holds.{knowing_all}
use Rattle.claims.proofs.holds.add_known.Goals as goal

pub returns : goal.returns
unfolding knowing_all
returns c = search rules
