use Rattle.capi_responder.proofs.Calling.{of_stop, call_kept, stop-taken}
use Rattle.capi_responder.proofs.changes.kurgashel_stop.Goals as goal
use Rattle.capi_responder.proofs.changes.kurgashel_stop.Goals.{then-refusal_of-eq0, else-refusal_of-eq0}

pub returns : goal.returns
returns c = let a = c.args in
    let gives = of_stop c.stop-ended.ensures in
    elim c.if-refusal_of-eq0.branch [
      | then-refusal_of-eq0 w ↦ rw w.state-is
          (stop-taken a.state.now a.out.now _ c.read_state.ensures c.refusal_of.ensures c.answered.ensures gives w.if-refusal_of-eq0.true w.put_progress.ensures)
      | else-refusal_of-eq0 w ↦ rw w.state-is
          (call_kept a.state.now a.out.now _ c.read_state.ensures gives c.refusal_of.ensures c.answered.ensures w.if-refusal_of-eq0.false)
    ]
