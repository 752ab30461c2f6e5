use Rattle.std.proofs.Common.{rules}
use Rattle.claims.specs.steps.Tick.{claim_turn}
use Rattle.claims.proofs.steps.claim_turn.Goals as goal

pub returns : goal.returns
unfolding claim_turn
returns c = search rules
