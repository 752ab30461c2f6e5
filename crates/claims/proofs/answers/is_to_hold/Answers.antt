use Rattle.std.proofs.Common.{rules}
use Rattle.claims.specs.answers.Held.{to_hold}
use Rattle.claims.proofs.answers.is_to_hold.Goals as goal

pub returns-then-not-some_from : goal.returns-then-not-some_from
unfolding to_hold
returns-then-not-some_from c = search rules

pub returns-else-not-some_from : goal.returns-else-not-some_from
unfolding to_hold
returns-else-not-some_from c = search rules
