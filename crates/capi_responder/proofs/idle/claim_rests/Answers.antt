use native.Mathlib.Omega.{arith}
use Rattle.std.proofs.lemmas.Grind.{common_steps}
use Rattle.capi_responder.specs.idle.Idle.{claim_rests}
use Rattle.capi_responder.proofs.idle.claim_rests.Goals as goal

pub returns-then-tag-lt6 : goal.returns-then-tag-lt6
unfolding claim_rests
returns-then-tag-lt6 c = grind (arith, common_steps)

pub returns-then-tag-le7 : goal.returns-then-tag-le7
unfolding claim_rests
returns-then-tag-le7 c = grind (arith, common_steps)

pub returns-else-tag-le7 : goal.returns-else-tag-le7
unfolding claim_rests
returns-else-tag-le7 c = grind (arith, common_steps)
