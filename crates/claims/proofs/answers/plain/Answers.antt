use Rattle.std.proofs.Common.{rules}
use Rattle.claims.specs.answers.Answers.{plain_of}
use Rattle.claims.proofs.answers.plain.Goals as goal

pub returns : goal.returns
unfolding plain_of
returns c = search rules
