use Rattle.std.proofs.Common.{rules}
use Rattle.claims.specs.answers.Answers.{multicast_asks}
use Rattle.claims.proofs.answers.multicast_asks.Goals as goal

pub returns : goal.returns
unfolding multicast_asks
returns c = search rules
