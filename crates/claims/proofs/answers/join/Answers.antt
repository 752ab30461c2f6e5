use Rattle.std.proofs.Common.{rules}
use Rattle.claims.specs.answers.Answers.{joined}
use Rattle.claims.proofs.answers.join.Goals as goal

pub returns-then-f : goal.returns-then-f
unfolding joined
returns-then-f c = search rules

pub returns-else-f : goal.returns-else-f
unfolding joined
returns-else-f c = search rules
