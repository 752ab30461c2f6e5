use borrow.Author.Tests.{eq-eqb, ne_eqb}
use Rattle.capi_responder.specs.codec.Layout.{state_size}
use Rattle.capi_player.proofs.Steps.{no_state_lem, play_kept, play_taken}
use Rattle.capi_player.proofs.kurgashel_play.Goals as goal
use Rattle.capi_player.proofs.kurgashel_play.Goals.{then-is_taken, else-is_taken}

pub returns-then-state-ne-STATE_SIZE : goal.returns-then-state-ne-STATE_SIZE
returns-then-state-ne-STATE_SIZE c = let a = c.args in
    no_state_lem a.state.now a.trace.now a.at (ne_eqb _ state_size c.if-state-ne-STATE_SIZE.true) c.no_state.ensures

pub returns : goal.returns
returns c = let a = c.args in
    let size = eq-eqb _ state_size c.if-state-ne-STATE_SIZE.false in
    elim c.if-is_taken.branch [
      | then-is_taken w ↦
          rw w.state-is
          (play_taken a.state.now a.trace.now a.at size c.read_state.ensures c.play-played.ensures c.refusal_number-call.ensures c.is_taken.ensures c.turn_numbers.ensures
          (λ i. (c.slice_known-1.given i).fits) (λ i. (c.shared_slice_known-1.given i).fits) w.if-is_taken.true w.put_state.ensures)
      | else-is_taken w ↦
          rw w.state-is
          (play_kept a.state.now a.trace.now a.at size c.read_state.ensures c.play-played.ensures c.refusal_number-call.ensures c.is_taken.ensures c.turn_numbers.ensures w.if-is_taken.false)
    ]
