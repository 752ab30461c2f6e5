use native.Mathlib.Omega.{arith}
use Rattle.std.proofs.lemmas.Grind.{common_steps}
use Rattle.capi_responder.specs.codec.Parts.{when_at}
use Rattle.capi_responder.proofs.codec.when_at.Goals as goal

pub returns-then-flag : goal.returns-then-flag
unfolding when_at
returns-then-flag c = grind (arith, common_steps)

pub returns-else-flag : goal.returns-else-flag
unfolding when_at
returns-else-flag c = grind (arith, common_steps)
