use mathlib.Core.Path.{ap, ◌∙◌}
use Rattle.std.specs.Prelude.{Err}
use Rattle.std.proofs.lemmas.Result.{err_from_is_err_and}
use Rattle.writer.specs.own_packets.Own.{probe_packet}
use Rattle.own.specs.records.Records.{own_name}
use Rattle.writer.proofs.own_packets.Owned.{own_long}
use Rattle.writer.proofs.own_packets.Answering.{refused, probe-ready, probe-sent}
use Rattle.writer.proofs.own_packets.probe.Goals as goal

pub returns-in_err-check_call : goal.returns-in_err-check_call
returns-in_err-check_call c = let a = c.args in
    let e = err_from_is_err_and c.from_residual.result c.from_residual.ensures.1 in
    let all = refused a.s a.out.now _ c.check_call.ensures (probe_packet a.s a.claim) _ c.in_err-check_call.was _ (e.1 ∙ ap Err e.2) in record { answer = all.0; out = all.1.0; number = all.1.1.0; sent = all.1.1.1 }

pub slice_bounds-write_packet-end : goal.slice_bounds-write_packet-end
slice_bounds-write_packet-end c = own_long (own_name c.args.s c.first_of.result) _ c.own_name-owner.ensures

pub write_packet-requires : goal.write_packet-requires
write_packet-requires c = let a = c.args in
    let p = c.pick_claim-list.ensures in record {
      packet_ready = probe-ready a.s a.out.now _ c.check_call.ensures c.in_ok-check_call.was a.claim _ p _
          c.first_of.ensures _
          c.own_name-owner.ensures _ c.probe_style.ensures;
      n_le_records = (p.few, p.sized);
    }

pub returns : goal.returns
returns c = let a = c.args in
    let p = c.pick_claim-list.ensures in
    let w = c.write_packet.ensures in
    let all = probe-sent a.s a.out.now _ c.check_call.ensures c.in_ok-check_call.was a.claim _ p _
    c.first_of.ensures _
    c.own_name-owner.ensures _ c.probe_style.ensures _ _
    w.value w.out_after in record { answer = all.0; out = all.1.0; number = all.1.1.0; sent = all.1.1.1 }
