use mathlib.Core.Path.{ap, ◌∙◌}
use Rattle.std.specs.Prelude.{Err}
use Rattle.std.proofs.lemmas.Result.{err_from_is_err_and}
use Rattle.writer.specs.own_packets.Own.{plain_packet}
use Rattle.writer.specs.Writer.{question_of}
use Rattle.writer.proofs.own_packets.Answering.{refused}
use Rattle.writer.proofs.own_packets.Plain.{unnamed, empty, plain_ready, plain-sent}
use Rattle.writer.proofs.own_packets.plain_reply.Goals as goal

pub returns-in_err-check_call : goal.returns-in_err-check_call
returns-in_err-check_call c = let a = c.args in
    let e = err_from_is_err_and c.from_residual.result c.from_residual.ensures.1 in
    let all = refused a.s a.out.now _ c.check_call.ensures (plain_packet a.s a.chosen a.id (question_of a.name.now a.qtype a.qclass)) _ c.in_err-check_call.was _ (e.1 ∙ ap Err e.2) in record { answer = all.0; out = all.1.0; number = all.1.1.0; sent = all.1.1.1 }

pub returns-then-not-is_name : goal.returns-then-not-is_name
returns-then-not-is_name c = let a = c.args in
    let all = unnamed a.s a.out.now _ c.check_call.ensures c.in_ok-check_call.was a.chosen a.id
    (question_of a.name.now a.qtype a.qclass) _ c.is_name.ensures (c.if-not-is_name.true) in record { answer = all.0; out = all.1.0; number = all.1.1.0; sent = all.1.1.1 }

pub returns-then-records-eq0 : goal.returns-then-records-eq0
returns-then-records-eq0 c = let a = c.args in
    let all = empty a.s a.out.now _ c.check_call.ensures c.in_ok-check_call.was a.chosen a.id
    (question_of a.name.now a.qtype a.qclass) _ c.is_name.ensures (c.if-not-is_name.false) _ c.with_data.ensures _
    c.pick-records.ensures c.if-records-eq0.true in record { answer = all.0; out = all.1.0; number = all.1.1.0; sent = all.1.1.1 }

pub write_packet-requires : goal.write_packet-requires
write_packet-requires c = let a = c.args in
    let p = c.pick-records.ensures in record {
      packet_ready = plain_ready a.s a.out.now _ c.check_call.ensures c.in_ok-check_call.was a.chosen a.id
          (question_of a.name.now a.qtype a.qclass) _ c.is_name.ensures (c.if-not-is_name.false) _ c.with_data.ensures _
          p _ c.plain_style-style.ensures;
      n_le_records = (p.few, p.sized);
    }

pub returns : goal.returns
returns c = let a = c.args in
    let w = c.write_packet.ensures in
    let all = plain-sent a.s a.out.now _ c.check_call.ensures c.in_ok-check_call.was a.chosen a.id
    (question_of a.name.now a.qtype a.qclass) _ c.is_name.ensures (c.if-not-is_name.false) _ c.with_data.ensures _
    c.pick-records.ensures c.if-records-eq0.false _ c.plain_style-style.ensures _ _ w.value w.out_after in record { answer = all.0; out = all.1.0; number = all.1.1.0; sent = all.1.1.1 }
