use native.Mathlib.Omega.{arith}
use Rattle.std.proofs.lemmas.Grind.{common_steps}
use Rattle.capi_responder.specs.idle.Idle.{when_kept}
use Rattle.capi_responder.proofs.idle.when_kept.Goals as goal

pub returns-then-flag-eq0 : goal.returns-then-flag-eq0
unfolding when_kept
returns-then-flag-eq0 c = grind (arith, common_steps)

pub returns-then-flag-eq1 : goal.returns-then-flag-eq1
unfolding when_kept
returns-then-flag-eq1 c = grind (arith, common_steps)

pub returns-else-flag-eq1 : goal.returns-else-flag-eq1
unfolding when_kept
returns-else-flag-eq1 c = grind (arith, common_steps)
