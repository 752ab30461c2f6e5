use Rattle.std.proofs.Common.{sym, ap, ◌∙◌}
use Rattle.std.specs.Prelude.{[], ◌∷◌}
use lib.Seq.{sets}
use Rattle.trace.specs.records.Numbers.{bytes16}
use Rattle.trace.specs.reading.Events.{occurrence}
use Rattle.trace.specs.writing.Bytes.{headed, source_bytes, packet_bytes, bytes_of}
use Rattle.trace.specs.declared.reading.Event.{Event}
use Rattle.trace.proofs.writing.Laid.{laid, length-headed, length-source, sourced_bytes}
use Rattle.trace.proofs.writing.put_event.Goals as goal

pub returns-else-is_usual : goal.returns-else-is_usual
returns-else-is_usual c = laid c.args.out.now c.args.at 19 (source_bytes c.in-Packet.from c.in-Packet.hold) (packet_bytes c.in-Packet.time c.in-Packet.port c.in-Packet.draw c.args.bytes.now) _ _ (length-source c.in-Packet.from c.in-Packet.hold) c.put_source.ensures c.put_packet-else-is_usual.ensures
    ∙ ap (sets c.args.out.now c.args.at) (sym (sourced_bytes c.in-Packet.time c.in-Packet.from c.in-Packet.port c.in-Packet.draw c.in-Packet.hold c.args.bytes.now _ c.is_usual.ensures c.if-is_usual.false))
    ∙ ap (λ (v : Event). sets c.args.out.now c.args.at (bytes_of (occurrence v c.args.bytes.now))) (sym c.in-Packet.is)

pub returns-in-Claim : goal.returns-in-Claim
returns-in-Claim c = laid c.args.out.now c.args.at 9 (headed 4 c.in-Claim.last) (c.in-Claim.claim ∷ c.in-Claim.state ∷ []) _ _ (length-headed 4 c.in-Claim.last) c.put_headed-in-Claim.ensures c.put_claim.ensures
    ∙ ap (λ (v : Event). sets c.args.out.now c.args.at (bytes_of (occurrence v c.args.bytes.now))) (sym c.in-Claim.is)

pub returns-in-Port : goal.returns-in-Port
returns-in-Port c = laid c.args.out.now c.args.at 9 (headed 7 c.in-Port.time) (bytes16 c.in-Port.port) _ _ (length-headed 7 c.in-Port.time) c.put_headed-in-Port.ensures c.put16.ensures
    ∙ ap (λ (v : Event). sets c.args.out.now c.args.at (bytes_of (occurrence v c.args.bytes.now))) (sym c.in-Port.is)
