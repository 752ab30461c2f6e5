use Rattle.std.specs.Prelude.{Err}
use Rattle.std.proofs.lemmas.Result.{err_from_is_err_and}
use mathlib.Core.Path.{ap, ◌∙◌}
use Rattle.writer.specs.own_packets.Own.{chosen_packet}
use Rattle.writer.proofs.own_packets.Answering.{refused, empty-nothing, response_ready, response_sent}
use Rattle.writer.proofs.own_packets.write_chosen.Goals as goal

pub returns-in_err-check_call : goal.returns-in_err-check_call
returns-in_err-check_call c = let a = c.args in
    let e = err_from_is_err_and c.from_residual.result c.from_residual.ensures.1 in
    let all = refused a.s a.out.now _ c.check_call.ensures (chosen_packet a.s a.style a.chosen) _ c.in_err-check_call.was _ (e.1 ∙ ap Err e.2) in
    record { answer = all.0; out = all.1.0; number = all.1.1.0; sent = all.1.1.1 }

pub returns-then-list-eq0 : goal.returns-then-list-eq0
returns-then-list-eq0 c = let a = c.args in
    let all = empty-nothing a.s a.out.now _ c.check_call.ensures c.in_ok-check_call.was a.style c.requires _ _ c.pick-list.ensures c.if-list-eq0.true in
    record { answer = all.0; out = all.1.0; number = all.1.1.0; sent = all.1.1.1 }

pub write_packet-requires : goal.write_packet-requires
write_packet-requires c = let a = c.args in
    let p = c.pick-list.ensures in record {
      packet_ready = response_ready a.s a.out.now _ c.check_call.ensures c.in_ok-check_call.was a.style c.requires _ _ p;
      n_le_records = (p.few, p.sized);
    }

pub returns : goal.returns
returns c = let a = c.args in
    let w = c.write_packet.ensures in
    let all = response_sent a.s a.out.now _ c.check_call.ensures c.in_ok-check_call.was a.style c.requires _ _ c.pick-list.ensures
    c.if-list-eq0.false _ _ w.value w.out_after in record { answer = all.0; out = all.1.0; number = all.1.1.0; sent = all.1.1.1 }
