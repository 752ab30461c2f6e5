use Rattle.std.proofs.Common.{rules}
use Rattle.claims.specs.steps.Tick.{step_turn}
use Rattle.claims.proofs.steps.step_turn.Goals as goal

pub returns-in-OfClaim : goal.returns-in-OfClaim
unfolding step_turn
returns-in-OfClaim c = search rules

pub returns-in-PtrReply : goal.returns-in-PtrReply
unfolding step_turn
returns-in-PtrReply c = search rules

pub returns-in-OfHold : goal.returns-in-OfHold
unfolding step_turn
returns-in-OfHold c = search rules
