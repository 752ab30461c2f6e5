use native.Mathlib.Omega.{arith}
use Rattle.std.proofs.lemmas.Grind.{common_steps}
use Rattle.capi_responder.specs.codec.Codec.{with_setup}
use Rattle.capi_responder.proofs.encoder.Whole.{setup_written}
use Rattle.capi_responder.proofs.encoder.put_setup.Goals as goal

pub returns-then-setup-eq-SETUP_SIZE : goal.returns-then-setup-eq-SETUP_SIZE
returns-then-setup-eq-SETUP_SIZE c = let a = c.args in
    setup_written a.state.now a.setup.now _ c.if-state-eq-STATE_SIZE.true c.if-setup-eq-SETUP_SIZE.true c.put.ensures

pub returns-else-state-eq-STATE_SIZE : goal.returns-else-state-eq-STATE_SIZE
unfolding with_setup
returns-else-state-eq-STATE_SIZE c = grind (arith, common_steps)
