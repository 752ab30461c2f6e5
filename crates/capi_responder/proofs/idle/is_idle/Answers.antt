use native.Mathlib.Omega.{arith}
use Rattle.std.proofs.lemmas.Grind.{common_steps}
use Rattle.capi_responder.specs.idle.Idle.{is_idle}
use Rattle.capi_responder.proofs.idle.is_idle.Goals as goal

pub returns-then-nothing_due : goal.returns-then-nothing_due
unfolding is_idle
returns-then-nothing_due c = grind (arith, common_steps)

pub returns-else-nothing_due : goal.returns-else-nothing_due
unfolding is_idle
returns-else-nothing_due c = grind (arith, common_steps)
