use Rattle.std.proofs.Common.{rules}
use Rattle.claims.specs.answers.Held.{receive_of}
use Rattle.claims.proofs.answers.receive.Goals as goal

pub returns-then-is_to_hold : goal.returns-then-is_to_hold
unfolding receive_of
returns-then-is_to_hold c = search rules

pub returns-else-is_to_hold : goal.returns-else-is_to_hold
unfolding receive_of
returns-else-is_to_hold c = search rules
