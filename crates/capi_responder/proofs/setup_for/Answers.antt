use Rattle.capi_responder.specs.Exported.{setup_for}
use Rattle.responder.specs.declared.State.{State}
use mathlib.Core.Path.{ap}
use borrow.Author.Tests.{eq-eqb, ne_eqb}
use Rattle.capi_responder.specs.codec.Layout.{state_size}
use Rattle.capi_responder.proofs.setup_for.Goals as goal

pub returns-then-room-eq-STATE_SIZE : goal.returns-then-room-eq-STATE_SIZE
unfolding setup_for
returns-then-room-eq-STATE_SIZE c = let e : _ = eq-eqb _ state_size c.if-room-eq-STATE_SIZE.true in simp e c.read_setup.ensures

pub returns-else-room-eq-STATE_SIZE : goal.returns-else-room-eq-STATE_SIZE
unfolding setup_for
returns-else-room-eq-STATE_SIZE c = let e : _ = ne_eqb _ state_size c.if-room-eq-STATE_SIZE.false in simp e (ap (λ (s : State). s.setup) c.blank_state.ensures)
