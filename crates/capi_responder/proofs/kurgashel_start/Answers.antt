use Rattle.capi_responder.proofs.Starting.{start-kept, start-taken}
use Rattle.capi_responder.proofs.kurgashel_start.Goals as goal
use Rattle.capi_responder.proofs.kurgashel_start.Goals.{then-refusal_of-eq0, else-refusal_of-eq0}

pub returns : goal.returns
returns c = let a = c.args in
    elim c.if-refusal_of-eq0.branch [
      | then-refusal_of-eq0 w ↦ rw w.state-is
          (start-taken a.state.now a.setup.now _ _ c.setup_for.ensures c.start-begun.ensures.answer c.refusal_of.ensures
          c.answered.ensures w.if-refusal_of-eq0.true w.put_setup.ensures w.put_progress.ensures)
      | else-refusal_of-eq0 w ↦ rw w.state-is
          (start-kept a.state.now a.setup.now _ _ c.setup_for.ensures c.start-begun.ensures.answer c.refusal_of.ensures c.answered.ensures
          w.if-refusal_of-eq0.false)
    ]
