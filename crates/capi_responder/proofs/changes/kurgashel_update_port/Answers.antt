use Rattle.capi_responder.specs.Exported.{with_data}
use Rattle.capi_responder.proofs.Calling.{update-kept, update-taken}
use Rattle.capi_responder.proofs.changes.kurgashel_update_port.Goals as goal
use Rattle.capi_responder.proofs.changes.kurgashel_update_port.Goals.{then-refusal_of-eq0, else-refusal_of-eq0}

pub returns : goal.returns
unfolding with_data
returns c = let a = c.args in
    let changes = c.update_port-changed.ensures in
    elim c.if-refusal_of-eq0.branch [
      | then-refusal_of-eq0 w ↦ rw w.state-is
          (update-taken a.state.now a.out.now _ c.read_state.ensures c.refusal_of.ensures c.answered.ensures changes w.if-refusal_of-eq0.true
          w.put_port.ensures w.put_progress.ensures)
      | else-refusal_of-eq0 w ↦ rw w.state-is
          (update-kept a.state.now a.out.now _ c.read_state.ensures c.refusal_of.ensures c.answered.ensures changes w.if-refusal_of-eq0.false)
    ]
