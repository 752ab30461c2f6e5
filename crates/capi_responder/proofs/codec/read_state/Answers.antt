use native.Mathlib.Omega.{arith}
use Rattle.std.proofs.lemmas.Grind.{common_steps}
use Rattle.capi_responder.specs.codec.Codec.{decode}
use Rattle.capi_responder.proofs.codec.read_state.Goals as goal

pub returns-then-b-eq-STATE_SIZE : goal.returns-then-b-eq-STATE_SIZE
unfolding decode
returns-then-b-eq-STATE_SIZE c = grind (arith, common_steps)

pub returns-else-b-eq-STATE_SIZE : goal.returns-else-b-eq-STATE_SIZE
unfolding decode
returns-else-b-eq-STATE_SIZE c = grind (arith, common_steps)
