use borrow.Author.Tests.{ne_eqb}
use Rattle.capi_responder.specs.codec.Layout.{state_size}
use Rattle.capi_responder.proofs.encoder.Whole.{time_written, time_kept}
use Rattle.capi_responder.proofs.encoder.put_time.Goals as goal

pub returns-then-size-eq-STATE_SIZE : goal.returns-then-size-eq-STATE_SIZE
returns-then-size-eq-STATE_SIZE c = let a = c.args in time_written a.state.now a.time _ c.if-size-eq-STATE_SIZE.true c.put_number.ensures.0

pub returns-else-size-eq-STATE_SIZE : goal.returns-else-size-eq-STATE_SIZE
returns-else-size-eq-STATE_SIZE c = time_kept c.args.state.now c.args.time (ne_eqb _ state_size c.if-size-eq-STATE_SIZE.false)
