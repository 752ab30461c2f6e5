use native.Mathlib.Omega.{arith}
use Rattle.std.proofs.lemmas.Grind.{common_steps}
use Rattle.capi_responder.specs.codec.Codec.{setup_of}
use Rattle.capi_responder.proofs.codec.read_setup.Goals as goal

pub returns-then-b-eq-SETUP_SIZE : goal.returns-then-b-eq-SETUP_SIZE
unfolding setup_of
returns-then-b-eq-SETUP_SIZE c = grind (arith, common_steps)

pub returns-else-b-eq-SETUP_SIZE : goal.returns-else-b-eq-SETUP_SIZE
unfolding setup_of
returns-else-b-eq-SETUP_SIZE c = grind (arith, common_steps)
