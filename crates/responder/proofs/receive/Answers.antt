use mathlib.Core.Path.{ap, ◌∙◌}
use lib.ListN.{length}
use Rattle.wire.proofs.message.Walk.{layout_shows}
use Rattle.facts.specs.Facts.{facts_of}
use Rattle.responder.proofs.Refusals.{receive-accepted}
use Rattle.responder.proofs.Refusing.{both-large, can_send, is-admitted, is-refused}
use Rattle.responder.proofs.Settling.{receive-refused, receives}
use Rattle.responder.proofs.receive.Goals as goal

pub send-sent-requires : goal.send-sent-requires
send-sent-requires c = let a = c.args in
    let accepted = receive-accepted _ _ (is-admitted _ _ _ c.admit.ensures _ c.in-Ok.is).0 in
    can_send a.state a.out.now (both-large (length a.out.now) (length a.unicast.now) accepted.buffers).0 accepted.right

pub reply-replied-requires : goal.reply-replied-requires
reply-replied-requires c = let a = c.args in
    let admitted = is-admitted _ _ _ c.admit.ensures _ c.in-Ok.is in
    let accepted = receive-accepted _ _ admitted.0 in
    record { out_value = can_send a.state a.unicast.now (both-large (length a.out.now) (length a.unicast.now) accepted.buffers).1 accepted.right; packet_value = (admitted.1, admitted.2) }

pub returns-in-Ok : goal.returns-in-Ok
returns-in-Ok c = let admitted = is-admitted _ _ _ c.admit.ensures _ c.in-Ok.is in
    receives _ _ _ _ _ _ _ _ _ _ _ admitted.0 admitted.2
    (c.facts-facts.ensures ∙ ap (facts_of _) (layout_shows _ _ admitted.1 admitted.2))
    c.hear-heard.ensures (c.send-sent.ensures.value, c.send-sent.ensures.out_after) (c.reply-replied.ensures.value, c.reply-replied.ensures.out_after) c.answer_with.ensures

pub returns-in-Err : goal.returns-in-Err
returns-in-Err c = receive-refused _ _ _ _ _ (is-refused _ _ _ c.admit.ensures _ c.in-Err.is)
