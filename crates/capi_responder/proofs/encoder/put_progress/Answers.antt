use borrow.Author.Tests.{ne_eqb}
use Rattle.capi_responder.proofs.encoder.Whole.{progress_written, progress_kept}
use Rattle.capi_responder.specs.codec.Layout.{state_size}
use Rattle.capi_responder.proofs.encoder.put_progress.Goals as goal

pub returns-then-state-eq-STATE_SIZE : goal.returns-then-state-eq-STATE_SIZE
returns-then-state-eq-STATE_SIZE c = let a = c.args in
    progress_written a.state.now a.progress _ c.if-state-eq-STATE_SIZE.true c.lay_progress.ensures

pub returns-else-state-eq-STATE_SIZE : goal.returns-else-state-eq-STATE_SIZE
returns-else-state-eq-STATE_SIZE c = progress_kept c.args.state.now c.args.progress (ne_eqb _ state_size c.if-state-eq-STATE_SIZE.false)
