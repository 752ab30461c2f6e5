use Rattle.std.proofs.Common.{rules}
use Rattle.claims.specs.answers.Answers.{heard_of}
use Rattle.claims.proofs.answers.heard_by.Goals as goal

pub returns-then-h : goal.returns-then-h
unfolding heard_of
returns-then-h c = search rules

pub returns-else-h : goal.returns-else-h
unfolding heard_of
returns-else-h c = search rules

pub returns-then-h-3 : goal.returns-then-h-3
unfolding heard_of
returns-then-h-3 c = search rules

pub returns-else-h-2 : goal.returns-else-h-2
unfolding heard_of
returns-else-h-2 c = search rules
