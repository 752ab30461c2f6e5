use Rattle.std.proofs.Common.{rules}
use Rattle.claims.specs.steps.Tick.{sends}
use Rattle.claims.proofs.steps.send.Goals as goal

pub returns-then-is_any : goal.returns-then-is_any
unfolding sends
returns-then-is_any c = search rules

pub returns-else-is_any : goal.returns-else-is_any
unfolding sends
returns-else-is_any c = search rules
