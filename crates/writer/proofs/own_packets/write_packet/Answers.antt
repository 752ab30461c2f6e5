use mathlib.Core.Path.{◌≡◌, refl, sym, ap, ◌∙◌}
use mathlib.Core.Bool.{cond}
use native.Mathlib.Omega.{arith}
use lib.ListN.{replicate}
use Rattle.std.specs.Prelude.{is_some}
use Rattle.writer.specs.own_packets.Ready.{most_places}
use Rattle.writer.proofs.own_packets.Answering.{counts_small, list_ready, packet_written}
use Rattle.writer.proofs.own_packets.write_packet.Goals as goal
use Rattle.writer.proofs.own_packets.write_packet.Goals.{Joined-style, then-is_some, else-is_some, then-style, else-style}

-- how many questions there are, and how many records in which section
questions : (c : Joined-style) → c.if-is_some.questions ≡ cond (is_some c.args.style.asks) 1 0
questions c = elim c.if-is_some.branch [
  | then-is_some w ↦ w.questions-is ∙ sym (ap (λ b. cond b 1 0) (sym c.is_some.ensures ∙ w.if-is_some.true))
  | else-is_some w ↦ w.questions-is ∙ sym (ap (λ b. cond b 1 0) (sym c.is_some.ensures ∙ w.if-is_some.false))
]

sections : (c : Joined-style) → c.if-style.answers ≡ (cond c.args.style.authority 0 c.args.list.n, cond c.args.style.authority c.args.list.n 0)
sections c = elim c.if-style.branch [
  | then-style w ↦ rw w.if-style.true w.answers-is
  | else-style w ↦ rw w.if-style.false w.answers-is
]

pub put_header-requires : goal.put_header-requires
put_header-requires c = let a = c.args in
    let pre = c.requires in
    let j = (goal.at.put_header-requires c).Joined-style in
    let k = sections j in
    let n = counts_small a.s a.style a.name.now a.list a.out.now pre.packet_ready pre.n_le_records _ _ _ (questions j) (ap (λ x. x.0) k) (ap (λ x. x.1) k) in
    record {
      room = omega (arith, pre.packet_ready.room);
      id_small = omega arith;
      flags_small = omega arith;
      questions_small = n.0;
      answers_small = n.1;
      authorities_small = n.2;
    }

pub write_list-r-requires : goal.write_list-r-requires
write_list-r-requires c = let a = c.args in
    let pre = c.requires in
    let j = (goal.at.write_list-r-requires c).Joined-style in
    let k = sections j in record {
      list_ready = list_ready a.s a.style a.name.now a.list a.out.now pre.packet_ready pre.n_le_records _ _ _
          (questions j) (ap (λ x. x.0) k) (ap (λ x. x.1) k) _ c.put_header.ensures
          (replicate most_places 0) refl _ _ _ c.write_asked-q.ensures
          c.write_asked-q.auto.out c.write_asked-q.auto.places;
      n_le_records = pre.n_le_records;
    }

pub returns : goal.returns
returns c = let a = c.args in
    let pre = c.requires in
    let j = (goal.at.returns c).Joined-style in
    let k = sections j in
    let all = packet_written a.s a.style a.name.now a.list a.out.now pre.packet_ready pre.n_le_records _ _ _
    (questions j) (ap (λ x. x.0) k) (ap (λ x. x.1) k) _ c.put_header.ensures
    (replicate most_places 0) refl _ _ _ c.write_asked-q.ensures
    c.write_asked-q.auto.out
    c.write_asked-q.auto.places
    _ _ _ c.write_list-r.ensures in record { value = all.0; out_after = all.1 }
