use Rattle.wire.specs.message.Readable.{message_in}
use Rattle.responder.proofs.Sending.{wrote}
use Rattle.responder.proofs.Settling.{replies_mdns}
use Rattle.responder.proofs.reply.Goals as goal

pub returns-then-port-eq-MDNS_PORT : goal.returns-then-port-eq-MDNS_PORT
unfolding message_in
returns-then-port-eq-MDNS_PORT c = let a = c.args in
    let all = replies_mdns a.setup a.port a.set (message_in a.packet.now a.l) a.out.now _ _ c.if-port-eq-MDNS_PORT.true
    (wrote a.setup a.out.now _ _ _ _ c.requires.out_value (c.respond.ensures.answer, c.respond.ensures.out) c.length_of.ensures) in record { value = all.0; out_after = all.1 }
