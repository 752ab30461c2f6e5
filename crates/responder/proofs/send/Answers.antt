use Rattle.responder.proofs.Sending.{probe-packet, response_packet_lem, sends-nothing, sends}
use Rattle.responder.proofs.send.Goals as goal

pub returns-in-Nothing : goal.returns-in-Nothing
returns-in-Nothing c = let all = sends-nothing _ _ _ c.in-Nothing.is in record { value = all.0; out_after = all.1 }

pub returns-in-Probe : goal.returns-in-Probe
returns-in-Probe c = let all = sends _ _ _ _ _ _ _ c.requires (probe-packet _ _ _ c.in-Probe.is)
    (c.probe.ensures.answer, c.probe.ensures.out) c.length_of.ensures in record { value = all.0; out_after = all.1 }

pub returns-in-Response : goal.returns-in-Response
returns-in-Response c = let all = sends _ _ _ _ _ _ _ c.requires (response_packet_lem _ _ _ c.in-Response.is)
    (c.respond.ensures.answer, c.respond.ensures.out) c.length_of-in-Response.ensures in record { value = all.0; out_after = all.1 }
