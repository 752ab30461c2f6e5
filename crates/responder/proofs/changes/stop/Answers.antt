use lib.ListN.{length}
use Rattle.responder.proofs.Refusing.{tick-passed, can_send}
use Rattle.responder.proofs.Sending.{wrote}
use Rattle.responder.proofs.changes.Changing.{stop-refused, stops}
use Rattle.responder.proofs.changes.stop.Goals as goal

pub returns-in-Err : goal.returns-in-Err
returns-in-Err c = stop-refused _ _ _ c.admit_tick.ensures c.in-Err.is

pub returns : goal.returns
returns c = let a = c.args in
    let accepted = tick-passed a.state (record { time = a.time; room = length a.out.now }) c.admit_tick.ensures c.in_default.is in
    let fine = can_send a.state a.out.now accepted.buffer accepted.right in
    stops _ _ _ c.admit_tick.ensures _ _ _ _ c.in_default.is c.stop-stopped.ensures
    (wrote a.state.setup a.out.now _ _ _ _ fine (c.goodbye.ensures.answer, c.goodbye.ensures.out) c.length_of-goodbye.ensures)
    c.answer_with.ensures
