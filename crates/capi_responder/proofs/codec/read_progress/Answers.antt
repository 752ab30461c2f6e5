use native.Mathlib.Omega.{arith}
use Rattle.std.proofs.lemmas.Grind.{common_steps}
use Rattle.capi_responder.specs.codec.Codec.{decode}
use Rattle.capi_responder.proofs.codec.read_progress.Goals as goal

pub returns-then-size-eq-STATE_SIZE : goal.returns-then-size-eq-STATE_SIZE
unfolding decode
returns-then-size-eq-STATE_SIZE c = grind (arith, common_steps)

pub returns-else-size-eq-STATE_SIZE : goal.returns-else-size-eq-STATE_SIZE
unfolding decode
returns-else-size-eq-STATE_SIZE c = grind (arith, common_steps)
