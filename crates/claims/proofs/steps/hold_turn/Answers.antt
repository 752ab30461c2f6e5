use Rattle.std.proofs.Common.{rules}
use Rattle.claims.specs.steps.Tick.{hold_turn}
use Rattle.claims.proofs.steps.hold_turn.Goals as goal

pub returns-then-has_come : goal.returns-then-has_come
unfolding hold_turn
returns-then-has_come c = search rules

pub returns-else-has_come : goal.returns-else-has_come
unfolding hold_turn
returns-else-has_come c = search rules
