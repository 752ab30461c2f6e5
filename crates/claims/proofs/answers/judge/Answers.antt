use Rattle.std.proofs.Common.{rules}
use Rattle.claims.specs.answers.Answers.{judged_of}
use Rattle.claims.proofs.answers.judge.Goals as goal

pub returns : goal.returns
unfolding judged_of
returns c = search rules
