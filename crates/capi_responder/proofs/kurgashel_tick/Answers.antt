use Rattle.std.proofs.Common.{rules}
use mathlib.Core.Path.{sym, ◌∙◌}
use Rattle.capi_responder.proofs.Calling.{of_tick, call_kept, tick-taken}
use Rattle.capi_responder.proofs.Idling.{idle_call}
use Rattle.capi_responder.proofs.kurgashel_tick.Goals as goal
use Rattle.capi_responder.proofs.kurgashel_tick.Goals.{then-refusal_of-eq0, else-refusal_of-eq0}

pub returns-then-is_idle : goal.returns-then-is_idle
returns-then-is_idle c = let a = c.args in
    idle_call a.state.now (λ i. search rules) a.time _ (sym c.is_idle.ensures ∙ c.if-is_idle.true)
    c.answered.ensures c.put_time.ensures

pub returns : goal.returns
returns c = let a = c.args in
    let gives = of_tick c.tick-walked.ensures in
    elim c.if-refusal_of-eq0.branch [
      | then-refusal_of-eq0 w ↦ rw w.state-is
          (tick-taken a.state.now a.out.now _ c.read_state.ensures c.refusal_of.ensures c.answered-2.ensures gives w.if-refusal_of-eq0.true w.put_progress.ensures)
      | else-refusal_of-eq0 w ↦ rw w.state-is
          (call_kept a.state.now a.out.now _ c.read_state.ensures gives c.refusal_of.ensures c.answered-2.ensures w.if-refusal_of-eq0.false)
    ]
