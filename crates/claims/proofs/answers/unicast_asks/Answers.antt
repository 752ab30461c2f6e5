use Rattle.std.proofs.Common.{rules}
use Rattle.claims.specs.answers.Answers.{unicast_asks}
use Rattle.claims.proofs.answers.unicast_asks.Goals as goal

pub returns : goal.returns
unfolding unicast_asks
returns c = search rules
