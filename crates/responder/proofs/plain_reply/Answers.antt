use Rattle.responder.proofs.Replying.{not-one, unbroken, replied}
use Rattle.responder.proofs.plain_reply.Goals as goal

pub returns-then-questions-ne1 : goal.returns-then-questions-ne1
returns-then-questions-ne1 c = let a = c.args in
    let all = not-one a.setup a.set a.packet.now a.l c.requires.packet_value a.out.now c.if-questions-ne1.true in record { result_value = all.0; out_after = all.1 }

pub returns-in_default : goal.returns-in_default
returns-in_default c = let a = c.args in
    let all = unbroken a.setup a.set a.packet.now a.l c.requires.packet_value a.out.now c.if-questions-ne1.false _ c.question_at.ensures
    c.in_default.is in record { result_value = all.0; out_after = all.1 }

pub returns : goal.returns
returns c = let a = c.args in
    let all = replied a.setup a.set a.packet.now a.l c.requires.packet_value a.out.now c.if-questions-ne1.false _ c.question_at.ensures _ c.in-Some.is _
    c.expand-name.ensures _ c.part.ensures.bytes c.requires.out_value _ _ _ (c.plain_reply.ensures.answer, c.plain_reply.ensures.out)
    c.length_of.ensures in record { result_value = all.0; out_after = all.1 }
