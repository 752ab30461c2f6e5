use Rattle.std.proofs.Common.{rules}
use Rattle.claims.specs.steps.Tick.{reply_turn}
use Rattle.claims.proofs.steps.reply_turn.Goals as goal

pub returns-then-has_come : goal.returns-then-has_come
unfolding reply_turn
returns-then-has_come c = search rules

pub returns-else-has_come : goal.returns-else-has_come
unfolding reply_turn
returns-else-has_come c = search rules
