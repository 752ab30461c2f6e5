use native.Mathlib.Omega.{arith}
use Rattle.std.proofs.lemmas.Grind.{common_steps}
use Rattle.capi_responder.specs.idle.Idle.{reply_rests}
use Rattle.capi_responder.proofs.idle.reply_rests.Goals as goal

pub returns-then-flag-eq0 : goal.returns-then-flag-eq0
unfolding reply_rests
returns-then-flag-eq0 c = grind (arith, common_steps)

pub returns-then-flag-eq1 : goal.returns-then-flag-eq1
unfolding reply_rests
returns-then-flag-eq1 c = grind (arith, common_steps)

pub returns-else-flag-eq1 : goal.returns-else-flag-eq1
unfolding reply_rests
returns-else-flag-eq1 c = grind (arith, common_steps)
