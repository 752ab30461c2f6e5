-- A plain resolver gets exactly the records that are due, and nothing but the last time changes. Assumes nothing.
use Prim.Native.Nat.{ℕ, ◌≤◌}
use mathlib.Core.Path.{◌≡◌, refl, sym, ap, ◌∙◌}
use mathlib.Core.Logic.{◌≢◌}
use mathlib.Core.Bool.{Bool, true, false, not, ◌&&◌, ◌||◌, and-true}
use mathlib.Core.List.{List, [], ◌∷◌, map}
use native.Mathlib.Omega.{arith}
use lib.Dec.{eqb}
use lib.ListN.{length, take, drop}
use borrow.Author.Tests.{ne_eqb}
use mathlib.Mathlib.Data.Bool.Basic.{or-eq-false-eq-eq-false-and-eq-false as neither}
use Rattle.wire.specs.octets.Octets.{word16}
use Rattle.wire.specs.names.Names.{is_name}
use Rattle.wire.specs.case_folding.Fold.{same_name}
use Rattle.wire.specs.message.Message.{Question, Record, Message, is_response}
use Rattle.wire.specs.message.Layout.{read, message_at}
use Rattle.wire.specs.declared.message.Layout.{Layout}
use Rattle.wire.proofs.message.Refused.{accepted_from}
use Rattle.own.specs.declared.records.Setup.{Setup}
use Rattle.own.specs.records.Setups.{valid_setup}
use Rattle.own.specs.records.Records.{has_record, own_name}
use Rattle.own.proofs.records.Valid.{valid}
use Rattle.own.proofs.records.Apart.{apart}
use Rattle.claims.specs.Claims.{held_now, claim_of}
use Rattle.claims.specs.Refusals.{wrong_start_draw}
use Rattle.claims.specs.records.Own.{all, index_of, own_type, claim_for, carries_data, has}
use Rattle.claims.specs.records.Sets.{picked, with_data}
use Rattle.claims.specs.steps.Tick.{with_last}
use Rattle.claims.specs.declared.records.Claim.{Claim}
use Rattle.claims.specs.declared.records.Claim.TheVariants.{Instance, Host}
use Rattle.claims.specs.declared.records.Own.{Own}
use Rattle.claims.specs.declared.records.Set.{Set}
use Rattle.claims.specs.answers.Answers as answers
use Rattle.claims.proofs.records.Sets.{has-each}
use Rattle.facts.specs.Facts.{facts_of, is_asked}
use Rattle.writer.specs.own_packets.Styles.{plain_style, own_record}
use Rattle.writer.specs.own_packets.Own.{response_records, response_packet, plain_records, plain_reply_of, none_if_empty, plain_packet}
use Rattle.roundtrip.specs.Writable.{layout_of}
use Rattle.roundtrip.proofs.OwnPackets.{plain_fits, plain_back}
use Rattle.responder.specs.Handed.{Arrival}
use Rattle.responder.specs.Refusals.{wrong_state}
use Rattle.responder.specs.Calls.{unicast, parcels, packet_for, from_mdns, plain_for, received_packet, unicast_packet, receive_of}
use Rattle.responder.specs.Causes.{is_due}
use Rattle.responder.specs.Runs.{received, sent_by}
use Rattle.responder.specs.declared.State.{State}
use Rattle.responder.proofs.Refusals.{ReceiveAccepted, receive-accepted}
use Rattle.responder.proofs.Causes.{due-is}
use Rattle.responder.proofs.Replying.{begins, first-named, first-lies}
use Rattle.causes.specs.Statement.{answers_of, answers_in, Accepted, stands_in}
use Rattle.causes.specs.Plain.{one_of, is_replied, plain_cause, plain_record, plain_reply, RepliedExactly}
use Rattle.causes.proofs.Exactly.{picked_same, some-picked, some_same, one_of_all}

-- none passes a test that fails
picked_none : {A : Type 0} (f : A → Bool) → ((x : A) → f x ≡ false) → (xs : List A) → picked f xs ≡ []
unfolding picked
picked_none f e [] = refl
picked_none f e (x ∷ xs) = rw (e x, picked_none f e xs)

map_same : {A B : Type 0} (f g : A → B) → ((x : A) → f x ≡ g x) → (xs : List A) → map f xs ≡ map g xs
map_same f g e [] = refl
map_same f g e (x ∷ xs) = rw (e x, map_same f g e xs)

-- no packet has no answers
no_answers : answers_in [] ≡ []
unfolding message_at
no_answers = refl

none_written : (os : List Own) (packet : List ℕ) → os ≡ [] → none_if_empty os packet ≡ []
none_written [] packet e = refl
none_written (o ∷ os) packet e = let z : ◌≡◌ {A = ℕ} (length (o ∷ os)) 0 = ap length e in absurd (omega (arith, z))

-- ---- a plain reply read back

module _ (s : Setup) (v : valid_setup s ≡ true) (set : Set) (id : ℕ) (q : Question) (n : is_name q.name ≡ true) where
  record_is : (o : Own) → own_record s (plain_style id q.rtype q.class) o ≡ plain_record s o
  unfolding own_record
  record_is o = refl

  empty_back : plain_records s set ≡ [] → plain_packet s set id q ≡ []
  unfolding plain_packet
  empty_back e = simp n (none_written (plain_records s set) _ e)

  answers_back : answers_in (plain_packet s set id q) ≡ map (plain_record s) (plain_records s set)
  unfolding plain_reply_of
  answers_back = go (plain_records s set) refl
    where
      go : (os : List Own) → plain_records s set ≡ os → answers_in (plain_packet s set id q) ≡ map (plain_record s) (plain_records s set)
      go [] e = ap answers_in (empty_back e) ∙ no_answers ∙ sym (ap (map (plain_record s)) e)
      go (o ∷ os) e =
          ap answers_of (plain_back s v set id q n (λ z. let c : ◌≡◌ {A = ℕ} (length (o ∷ os)) 0 = ap length (sym e ∙ z) in omega (arith, c)))
          ∙ map_same (own_record s (plain_style id q.rtype q.class)) (plain_record s) record_is (plain_records s set)

module _ (s : State) (a : Arrival) (l : Layout) (m : Message) (ok : Accepted s a l m) (port : a.port ≢ 5353) where
  from : from_mdns a.port ≡ false
  from = ne_eqb a.port 5353 port

  passed : ReceiveAccepted s a
  passed = receive-accepted s a ok.accepted

  right : valid_setup s.setup ≡ true
  unfolding wrong_state
  right = not-false (valid_setup s.setup) ((neither (not (valid_setup s.setup)) (wrong_start_draw s.progress.draw)).0 passed.right).0
    where
      not-false : (b : Bool) → not b ≡ false → b ≡ true
      not-false true e = refl
      not-false false e = sym e

  -- a message from another port that is accepted is a query
  query : is_response m.flags ≡ false
  query =
      ap is_response (begins a.packet l m ok.message).0
      ∙ go (is_response (word16 a.packet 2)) (eqb a.port 5353) from (accepted_from a.packet a.port passed.message).0
    where
      go : (b c : Bool) → c ≡ false → (b && not c) ≡ false → b ≡ false
      go false c e h = refl
      go true false e h = h
      go true true e h = e

  abbrev due : Set
  due = answers.due_to s.progress (answers.asks_of (facts_of s.setup m)) s.setup.hasaaaa

  has-due : (o : Own) → has o due ≡ is_due s m o
  unfolding answers.due_to
  has-due o = has-each (answers.is_due s.progress (answers.asks_of (facts_of s.setup m)) s.setup.hasaaaa) o ∙ due-is s a.time m query o

  sent_is : unicast_packet s a ≡ plain_for s.setup due m.id m.questions
  unfolding unicast_packet answers.plain_of
  sent_is = simp (ok.accepted, ok.message, from)

  -- one that is due is there
  goes_once : (o : Own) → (has o (with_data due) && has_record s.setup o) ≡ (carries_data o && is_due s m o)
  unfolding with_data is_due
  goes_once o =
      ap (λ (v : Bool). v && has_record s.setup o) (has-each (λ p. carries_data p && has p due) o ∙ ap (λ (v : Bool). carries_data o && v) (has-due o))
      ∙ go (carries_data o) (is_response m.flags) (held_now (claim_of (claim_for o) s.progress)) (has_record s.setup o) (is_asked s.setup o m)
    where
      go : (g r h t k : Bool) → ((g && (not r && (h && (t && k)))) && t) ≡ (g && (not r && (h && (t && k))))
      go false r h t k = refl
      go true true h t k = refl
      go true false false t k = refl
      go true false true false k = refl
      go true false true true k = and-true k

  records-are : (q : Question) → m.questions ≡ q ∷ [] → plain_records s.setup due ≡ picked (is_replied s m) all
  unfolding plain_records response_records is_replied
  records-are q e =
      picked_same (λ o. has o (with_data due) && has_record s.setup o) (is_replied s m)
      (λ o. goes_once o ∙ ap (λ (qs : List Question). one_of qs && (carries_data o && is_due s m o)) (sym e)) all

  none-replied : one_of m.questions ≡ false → picked (is_replied s m) all ≡ []
  unfolding is_replied
  none-replied e = picked_none (is_replied s m) (λ o. ap (λ (b : Bool). b && (carries_data o && is_due s m o)) e) all

  named : (q : Question) → m.questions ≡ q ∷ [] → is_name q.name ≡ true
  named q e = first-named a.packet l m ok.message q [] e

  answered : answers_in (unicast_packet s a) ≡ map (plain_record s.setup) (picked (is_replied s m) all)
  answered = ap answers_in sent_is ∙ go m.questions refl
    where
      go : (qs : List Question) → m.questions ≡ qs → answers_in (plain_for s.setup due m.id qs) ≡ map (plain_record s.setup) (picked (is_replied s m) all)
      go [] e = no_answers ∙ sym (ap (map (plain_record s.setup)) (none-replied (ap one_of e)))
      go (q ∷ []) e = answers_back s.setup right due m.id q (named q e) ∙ ap (map (plain_record s.setup)) (records-are q e)
      go (q ∷ (r ∷ rs)) e = no_answers ∙ sym (ap (map (plain_record s.setup)) (none-replied (ap one_of e)))

  replied_is : (o : Own) → carries_data o ≡ true → has_record s.setup o ≡ true → is_replied s m o ≡ not (plain_cause s m o)
  unfolding is_replied is_due
  replied_is o d t =
      rw (d, t, query)
      (go (one_of m.questions) (held_now (claim_of (claim_for o) s.progress)) (is_asked s.setup o m))
    where
      go : (n h k : Bool) → (n && (true && (not false && (h && (true && k))))) ≡ not (not n || (not h || not k))
      go false h k = refl
      go true false k = refl
      go true true false = refl
      go true true true = refl

  goes : (o : Own) → carries_data o ≡ true → has_record s.setup o ≡ true → stands_in s.setup o (answers_in (unicast_packet s a)) ≡ not (plain_cause s m o)
  goes o d t =
      ap (stands_in s.setup o) answered
      ∙ (some-picked (λ (r : Record). same_name r.owner (own_name s.setup o) && eqb r.rtype (own_type o)) (plain_record s.setup) (is_replied s m) all
      ∙ (some_same (λ p. is_replied s m p && (same_name (own_name s.setup p) (own_name s.setup o) && eqb (own_type p) (own_type o)))
      (λ p. is_replied s m p && eqb (index_of p) (index_of o))
      (λ p. ap (λ (v : Bool). is_replied s m p && v) (apart s.setup (valid s.setup right) p o)) all
      ∙ (one_of_all (is_replied s m) o ∙ replied_is o d t)))

  whole : (q : Question) → m.questions ≡ q ∷ [] → picked (is_replied s m) all ≢ [] → (n : Layout) × (message_at (unicast_packet s a) ≡ read n (plain_reply s m q))
  unfolding plain_reply_of
  whole q e nz =
      let is : unicast_packet s a ≡ plain_packet s.setup due m.id q = sent_is ∙ ap (plain_for s.setup due m.id) e in
      let rs = records-are q e in
      let n : Layout = layout_of true (plain_reply_of s.setup due m.id q) in
      let answers : map (own_record s.setup (plain_style m.id q.rtype q.class)) (plain_records s.setup due) ≡ map (plain_record s.setup) (picked (is_replied s m) all) =
      map_same _ (plain_record s.setup) (record_is s.setup right due m.id q (named q e)) (plain_records s.setup due) ∙ ap (map (plain_record s.setup)) rs in (
        n,
        ap message_at is ∙ plain_back s.setup right due m.id q (named q e) (λ z. nz (sym rs ∙ z))
            ∙ ap (λ (l : List Record). read n (record { id = m.id; flags = 0x8400; questions = q ∷ []; answers = l; authorities = []; additionals = [] })) answers,
      )

  question : (q : Question) → m.questions ≡ q ∷ [] → picked (is_replied s m) all ≢ []
      → take (length q.name) (drop 12 (unicast_packet s a)) ≡ take (length q.name) (drop 12 a.packet)
  question q e nz =
      let w = whole q e nz in
      first-lies (unicast_packet s a) w.0 (plain_reply s m q) w.1 q [] refl ∙ sym (first-lies a.packet l m ok.message q [] e)

  fits : length (unicast_packet s a) ≤ 1268
  fits = rw sent_is (go m.questions)
    where
      go : (qs : List Question) → length (plain_for s.setup due m.id qs) ≤ 1268
      go [] = omega arith
      go (q ∷ []) = plain_fits s.setup right due m.id q
      go (q ∷ (r ∷ rs)) = omega arith

  none-to_all : received_packet s a ≡ []
  unfolding received_packet answers.plain_of packet_for response_packet response_records picked
  none-to_all = simp (ok.accepted, ok.message, from)

  private : sent_by s (received a) ≡ parcels unicast (unicast_packet s a)
  private = simp none-to_all

  state_is : (receive_of s a).state ≡ record { setup = s.setup; progress = with_last a.time s.progress }
  unfolding receive_of answers.plain_of
  state_is = simp (ok.accepted, ok.message, from)

  claims_are : (k : Claim) → claim_of k (receive_of s a).state.progress ≡ claim_of k s.progress
  claims_are Instance = ap (λ (x : State). x.progress.instance) state_is
  claims_are Host = ap (λ (x : State). x.progress.host) state_is

pub replied_exactly : RepliedExactly
replied_exactly s a l m ok port = record {
  answers = answered s a l m ok port;
  goes = goes s a l m ok port;
  reads = whole s a l m ok port;
  question = question s a l m ok port;
  fits = fits s a l m ok port;
  private = private s a l m ok port;
  state = state_is s a l m ok port;
  claims = claims_are s a l m ok port;
  multicasts = ap (λ (x : State). x.progress.sent) (state_is s a l m ok port);
}
