use Rattle.std.proofs.Common.{rules}
use Rattle.claims.specs.steps.Steps.{action_of}
use Rattle.claims.proofs.steps.claim_action.Goals as goal

pub returns-then-has_come : goal.returns-then-has_come
unfolding action_of
returns-then-has_come c = search rules

pub returns-else-has_come : goal.returns-else-has_come
unfolding action_of
returns-else-has_come c = search rules
