use lib.ListN.{length}
use Rattle.responder.proofs.Refusing.{update-passed}
use Rattle.responder.proofs.changes.Changing.{update-refused, updates, can_announce}
use Rattle.responder.proofs.changes.update.Goals as goal

pub returns-in-Err : goal.returns-in-Err
returns-in-Err c = update-refused _ _ _ _ _ c.admit_update.ensures c.in-Err.is

pub send-sent-requires : goal.send-sent-requires
send-sent-requires c = let a = c.args in
    let accepted = update-passed a.state a.time (length a.out.now) a.new c.admit_update.ensures c.in_default.is in
    can_announce a.new a.out.now accepted.buffer accepted.valid

pub returns : goal.returns
returns c = updates _ _ _ _ _ c.admit_update.ensures _ _ _ _ c.in_default.is c.update-updated.ensures (c.send-sent.ensures.value, c.send-sent.ensures.out_after)
    c.answer_with.ensures
