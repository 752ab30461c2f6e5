-- The goodbye of a stop, read back. Assumes nothing.
use mathlib.Core.Path.{◌≡◌, refl, sym, ap, ◌∙◌}
use mathlib.Core.List.{List, [], ◌∷◌, map}
use mathlib.Core.Bool.{Bool, true, false, ◌&&◌}
use Rattle.wire.specs.message.Message.{Record}
use Rattle.wire.specs.message.Layout.{read, message_at}
use Rattle.own.specs.records.Records.{has_record}
use Rattle.claims.specs.Claims.{held_now, claim_of}
use Rattle.claims.specs.records.Own.{all, claim_for, carries_data, present, has}
use Rattle.claims.specs.records.Sets.{picked}
use Rattle.claims.specs.declared.records.Own.{Own}
use Rattle.claims.proofs.changes.Stops.{goodbye-has}
use Rattle.writer.specs.own_packets.Styles.{own_record, packet_in}
use Rattle.writer.specs.own_packets.Own.{response_records, none_if_empty}
use Rattle.writer.specs.own_packets.Goodbye.{goodbye_style, goodbye_of, goodbye_packet}
use Rattle.roundtrip.specs.Writable.{layout_of}
use Rattle.roundtrip.proofs.Goodbye.{goodbye-back}
use Rattle.responder.specs.Handed.{Tick}
use Rattle.responder.specs.changes.Changes.{ended_of}
use Rattle.responder.specs.declared.State.{State}
use Rattle.responder.proofs.Refusals.{tick-accepted}
use Rattle.responder.proofs.changes.Stops.{goodbye-sent}
use Rattle.changes.specs.Statement.{is_held, held_records, parting, farewell, GoodbyeExactly}
use Rattle.changes.proofs.Right.{right_setup}

picked_same : {A : Type 0} (f g : A → Bool) → ((x : A) → f x ≡ g x) → (xs : List A) → picked f xs ≡ picked g xs
unfolding picked
picked_same f g e [] = refl
picked_same f g e (x ∷ xs) = rw (e x, picked_same f g e xs) refl

module _ (s : State) (t : Tick) where
  twice : (h d p : Bool) → ((h && (d && p)) && p) ≡ (h && (d && p))
  twice true true true = refl
  twice true true false = refl
  twice true false p = refl
  twice false d p = refl

  held-is : (o : Own) → (has o (ended_of s t.time).goodbye && has_record s.setup o) ≡ is_held s o
  unfolding has_record
  held-is o =
      ap (λ (b : Bool). b && present o s.setup.hasaaaa) (goodbye-has s.progress t.time s.setup.hasaaaa o)
      ∙ twice (held_now (claim_of (claim_for o) s.progress)) (carries_data o) (present o s.setup.hasaaaa)

  those : response_records s.setup (ended_of s t.time).goodbye ≡ held_records s
  unfolding response_records held_records
  those = picked_same (λ o. has o (ended_of s t.time).goodbye && has_record s.setup o) (is_held s) held-is all

  same_records : (os : List Own) → map (own_record s.setup goodbye_style) os ≡ map (parting s.setup) os
  unfolding own_record
  same_records [] = refl
  same_records (o ∷ os) = ap (λ (rs : List Record). parting s.setup o ∷ rs) (same_records os)

  says : goodbye_of s.setup (ended_of s t.time).goodbye ≡ farewell s
  unfolding goodbye_of farewell
  says = λ i. record {
    id = 0;
    flags = 0x8400;
    questions = [];
    answers = (ap (map (own_record s.setup goodbye_style)) those ∙ same_records (held_records s)) i;
    authorities = [];
    additionals = [];
  }

pub goodbye-exactly : GoodbyeExactly
unfolding goodbye_packet
goodbye-exactly s t taken = (
  λ some. (
    layout_of false (goodbye_of s.setup (ended_of s t.time).goodbye),
    ap message_at (goodbye-sent s t taken)
        ∙ goodbye-back s.setup (right_setup s (tick-accepted s t taken).right) (ended_of s t.time).goodbye (λ e. some (sym (those s t) ∙ e))
        ∙ ap (read (layout_of false (goodbye_of s.setup (ended_of s t.time).goodbye))) (says s t),
  ),
  λ none.
      let os : List Own = response_records s.setup (ended_of s t.time).goodbye in
      goodbye-sent s t taken ∙ ap (λ (l : List Own). none_if_empty l (packet_in s.setup goodbye_style [] os)) (those s t ∙ none),
)
