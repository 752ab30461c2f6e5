use lib.ListN.{length}
use Rattle.responder.proofs.Refusing.{tick-passed, can_send}
use Rattle.responder.proofs.Settling.{tick-refused, ticks}
use Rattle.responder.proofs.tick.Goals as goal

pub returns-in-Err : goal.returns-in-Err
returns-in-Err c = tick-refused _ _ _ c.admit_tick.ensures c.in-Err.is

pub send-sent-requires : goal.send-sent-requires
send-sent-requires c = let a = c.args in
    let accepted = tick-passed a.state (record { time = a.time; room = length a.out.now }) c.admit_tick.ensures c.in_default.is in
    can_send a.state a.out.now accepted.buffer accepted.right

pub returns : goal.returns
returns c = ticks _ _ _ c.admit_tick.ensures _ _ _ _ c.in_default.is c.tick-walked.ensures (c.send-sent.ensures.value, c.send-sent.ensures.out_after) c.answer_with.ensures
