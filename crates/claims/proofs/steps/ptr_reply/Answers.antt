use Rattle.std.proofs.Common.{rules}
use Rattle.claims.specs.steps.Tick.{ptr_reply}
use Rattle.claims.proofs.steps.ptr_reply.Goals as goal

pub returns-then-is_held : goal.returns-then-is_held
unfolding ptr_reply
returns-then-is_held c = search rules

pub returns-else-is_held : goal.returns-else-is_held
unfolding ptr_reply
returns-else-is_held c = search rules
