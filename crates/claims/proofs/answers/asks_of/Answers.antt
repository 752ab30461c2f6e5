use Rattle.std.proofs.Common.{rules}
use Rattle.claims.specs.answers.Answers.{asks_of}
use Rattle.claims.proofs.answers.asks_of.Goals as goal

pub returns : goal.returns
unfolding asks_of
returns c = search rules
