-- A reply to a plain resolver. Assumes nothing.
use Rattle.std.specs.Prelude.{Some, None, Result, Ok}
use Rattle.wire.specs.declared.refusals.Refusal.{Refusal}
use Rattle.wire.specs.refusals.Numbers.{refused_by}
use mathlib.Core.Path.{◌≡◌, refl, sym, ap, ap₂, ◌∙◌}
use mathlib.Core.List.{List, [], ◌∷◌, map}
use mathlib.Core.Bool.{Bool, true, false}
use Prim.Native.Nat.{ℕ, ◌≤◌}
use native.Mathlib.Omega.{arith}
use lib.ListN.{length, take, length-map}
use lib.Seq.{length-take-le}
use Rattle.wire.specs.names.Names.{is_name}
use Rattle.wire.specs.message.Message.{Question}
use Rattle.wire.proofs.labels.Encoded.{made_of}
use Rattle.wire.proofs.labels.Numbers.{at_most-127}
use Rattle.claims.specs.records.Own.{record_at}
use Rattle.claims.specs.records.Sets.{with_data}
use Rattle.claims.specs.declared.records.Own.{Own}
use Rattle.claims.specs.declared.records.Set.{Set}
use Rattle.own.specs.declared.records.Setup.{Setup}
use Rattle.own.proofs.records.Valid.{Valid, valid}
use Rattle.writer.specs.declared.own_packets.Picked.{Picked}
use Rattle.writer.specs.declared.own_packets.Style.{Style}
use Rattle.writer.specs.own_packets.Styles.{plain_style, packet_in}
use Rattle.writer.specs.own_packets.Own.{response_records, plain_records, none_if_empty, plain_packet, write_tests, laid_over}
use Rattle.writer.specs.own_packets.Ready.{listed, fixed, Picks, PacketReady}
use Rattle.writer.proofs.own_packets.Room.{plain_size, plain-labels}
use Rattle.writer.proofs.own_packets.Answering.{Answered, room, fine, nothing, sent, packet_some}

pub name-most : (name : List ℕ) → is_name name ≡ true → length name ≤ 255
name-most name h = let m = made_of name h in omega (arith, m.1.short, ap length m.2)

module _ (s : Setup) (o : List ℕ) (v : Result (Unit {0}) Refusal) (is : v ≡ refused_by (write_tests s (length o))) (t : v ≡ Ok tt) (chosen : Set) (id : ℕ) (q : Question) where
  room_is : 1452 ≤ length o
  room_is = room s o v is t

  ok : Valid s
  ok = valid s (fine s o v is t)

  module _ (b : Bool) (named : b ≡ is_name q.name) where
    pub unnamed : b ≡ false → Answered s (plain_packet s chosen id q) o (Ok None) o
    unfolding plain_packet
    unnamed not = nothing s o v is t (plain_packet s chosen id q) (simp (sym named ∙ not))

    module _ (is_true : b ≡ true) (carrying : Set) (ed : carrying ≡ with_data chosen) (list : Picked)
        (p : Picks (response_records s carrying) list) where
      those : listed list ≡ plain_records s chosen
      unfolding plain_records
      those = p.those ∙ ap (response_records s) ed

      is-named : is_name q.name ≡ true
      is-named = sym named ∙ is_true

      pub empty : list.n ≡ 0 → Answered s (plain_packet s chosen id q) o (Ok None) o
      unfolding plain_packet
      empty z =
          let e : plain_records s chosen ≡ [] = sym those ∙ ap (λ (k : ℕ). map record_at (take k list.order)) z in
          nothing s o v is t (plain_packet s chosen id q) (simp (is-named, e))

      pub plain_ready : (style : Style) → style ≡ plain_style id q.rtype q.class → PacketReady s style q.name (listed list) o
      plain_ready style e =
          let long = name-most q.name is-named in
          rw (e, those) (record {
            ok = fine s o v is t;
            named = λ f. is-named;
            counts = fixed {ttl = 10} (omega arith);
            room = omega (arith, room_is, plain_size s ok chosen, long);
            small = omega (arith, room_is, plain_size s ok chosen, long);
            slots = omega (arith, plain-labels s ok chosen, at_most-127 q.name is-named);
          })

      pub plain-sent : (list.n ≡ 0 → ⊥) → (style : Style) → style ≡ plain_style id q.rtype q.class → (n : ℕ) (o₁ : List ℕ)
          → n ≡ length (packet_in s style q.name (listed list)) → o₁ ≡ laid_over (packet_in s style q.name (listed list)) o
          → Answered s (plain_packet s chosen id q) o (Ok (Some n)) o₁
      unfolding plain_packet
      plain-sent nz style e n o₁ en w =
          sent s o v is t (plain_packet s chosen id q) n o₁
          (omega (arith, ap length packet, packet_some s ok written q.name (plain_records s chosen) (λ f. is-named)))
          (en ∙ ap length (as_listed ∙ sym packet)) (w ∙ ap (λ (l : List ℕ). laid_over l o) (as_listed ∙ sym packet))
        where
          written : Style
          written = plain_style id q.rtype q.class

          as_listed : packet_in s style q.name (listed list) ≡ packet_in s written q.name (plain_records s chosen)
          as_listed = ap₂ (λ (x : Style) (l : List Own). packet_in s x q.name l) e those

          some : (l : List Own) → (length l ≡ 0 → ⊥) → (packet : List ℕ) → none_if_empty l packet ≡ packet
          some [] z packet = absurd (z refl)
          some (x ∷ xs) z packet = refl

          many : length (plain_records s chosen) ≡ list.n
          many =
              ap length (sym those) ∙ length-map (take list.n list.order) record_at
              ∙ length-take-le list.n list.order (omega (arith, p.few, p.sized))

          packet : plain_packet s chosen id q ≡ packet_in s written q.name (plain_records s chosen)
          packet = simp is-named (some (plain_records s chosen) (λ z. nz (sym many ∙ z)) _)
