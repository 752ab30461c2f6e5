-- A record asked for is left out exactly for a cause of the specification: the packet of an accepted call is read back as the records that are due and have no
-- cause. Assumes nothing.
use Rattle.std.specs.Prelude.{Option, Some, None}
use Prim.Native.Nat.{ℕ, ◌+◌, ◌≤◌}
use mathlib.Core.Path.{◌≡◌, refl, sym, ap, subst, ◌∙◌}
use mathlib.Core.Logic.{◌≢◌, ◌⊎◌, inl, inr}
use mathlib.Core.Bool.{Bool, true, false, cond, not, ◌&&◌, ◌||◌, and-true, and-false, or-false}
use mathlib.Core.List.{List, [], ◌∷◌, ◌++◌, map}
use native.Mathlib.Omega.{arith}
use lib.Dec.{eqb, ltb}
use lib.ListN.{length}
use borrow.Author.Tests.{ltb-false, eq-eqb}
use mathlib.Mathlib.Data.Bool.Basic.{or-eq-false-eq-eq-false-and-eq-false as neither}
use Rattle.wire.specs.Lists.{some}
use Rattle.wire.specs.case_folding.Fold.{same_name}
use Rattle.wire.specs.message.Message.{Record, Message, is_response}
use Rattle.wire.specs.message.Layout.{read, message_at}
use Rattle.wire.specs.declared.message.Layout.{Layout}
use Rattle.own.specs.declared.records.Setup.{Setup}
use Rattle.own.specs.records.Setups.{valid_setup}
use Rattle.own.specs.records.Records.{has_record, own_name}
use Rattle.own.proofs.records.Valid.{valid}
use Rattle.own.proofs.records.Apart.{apart}
use Rattle.claims.specs.Claims.{held_now, claim_of}
use Rattle.claims.specs.Refusals.{kept, late_start, wrong_time, wrong_start_draw}
use Rattle.claims.specs.records.Own.{all, index_of, own_type, claim_for, goes_at_once, has, each}
use Rattle.claims.specs.records.Sets.{picked, at_once}
use Rattle.claims.specs.declared.records.Own.{Own}
use Rattle.claims.specs.declared.records.Own.TheVariants.{Ptr}
use Rattle.claims.specs.declared.records.Set.{Set}
use Rattle.claims.specs.answers.Held as holding
use Rattle.claims.specs.answers.Held.{to_hold, hold_of, held_back}
use Rattle.claims.specs.answers.Answers.{wanted_of, multicast_asks, set_reply, joined, judged_of}
use Rattle.claims.specs.declared.answers.Facts.{Facts}
use Rattle.claims.specs.declared.answers.Received.{Received}
use Rattle.claims.specs.declared.Progress.{Progress}
use Rattle.claims.specs.declared.holds.Hold.{Hold}
use Rattle.claims.specs.declared.records.Claim.TheVariants.{Instance, Host}
use Rattle.claims.specs.Time.{last_time, last_kept, sent_of, marked, marked_all}
use Rattle.claims.specs.holds.Holds.{held_of, some_from, some_free, knowing, knowing_all}
use Rattle.claims.proofs.holds.Lists.{queued-last, knowing-held}
use Rattle.claims.proofs.answers.Causes.{held-or_judged}
use Rattle.claims.proofs.answers.Receives.{held-truncated, held-room, receive-sent}
use Rattle.claims.proofs.records.Sets.{by-record, has-each, sent_each}
use Rattle.claims.proofs.Times.{after-exact}
use Rattle.facts.specs.probe.Probe.{is_probe}
use Rattle.facts.specs.Facts.{facts_of, response_facts, query_facts, is_asked, is_known, claim_name, is_truncated}
use Rattle.writer.specs.own_packets.Styles.{response_style, own_record}
use Rattle.writer.specs.own_packets.Own.{response_records, response_of, response_packet}
use Rattle.roundtrip.specs.Writable.{layout_of}
use Rattle.roundtrip.proofs.OwnPackets.{response_back}
use Rattle.responder.specs.Handed.{Arrival, coming_of}
use Rattle.responder.specs.Refusals.{wrong_state}
use Rattle.responder.specs.Calls.{packet_for, from_mdns, received_packet, unicast_packet, receive_of}
use Rattle.responder.specs.Causes.{is_due, has_cause, is_to_asker, is_wanted, is_unicast}
use Rattle.responder.specs.declared.State.{State}
use Rattle.responder.proofs.Refusals.{ReceiveAccepted, receive-accepted}
use Rattle.responder.proofs.Closure.{small-draws, least-hold}
use Rattle.responder.proofs.Causes.{wanted_exactly, unicast-exactly, one_way_lem}
use Rattle.causes.specs.Statement.{answers_of, answers_in, Accepted, is_held_back, wanted_now, goes_now, unicast_now, unicast_answer, OneWay, to_all, to_asker, left_out}
use Rattle.causes.specs.Statement.{kept_of, added_to, stands_in, LeftOutExactly}

-- ---- lists

-- two tests that agree pick the same
pub picked_same : {A : Type 0} (f g : A → Bool) → ((x : A) → f x ≡ g x) → (xs : List A) → picked f xs ≡ picked g xs
unfolding picked
picked_same f g e [] = refl
picked_same f g e (x ∷ xs) = rw (e x, picked_same f g e xs)

-- some of those that were picked pass a test
pub some-picked : {A B : Type 0} (test : B → Bool) (f : A → B) (g : A → Bool) (xs : List A) → some test (map f (picked g xs)) ≡ some (λ x. g x && test (f x)) xs
unfolding some picked
some-picked test f g [] = refl
some-picked test f g (x ∷ xs) = go (g x) (some-picked test f g xs)
  where
    go : (b : Bool) → some test (map f (picked g xs)) ≡ some (λ y. g y && test (f y)) xs
        → some test (map f (cond b (x ∷ picked g xs) (picked g xs))) ≡ ((b && test (f x)) || some (λ y. g y && test (f y)) xs)
    go true e = ap (λ (v : Bool). test (f x) || v) e
    go false e = e

pub some_same : {A : Type 0} (f g : A → Bool) → ((x : A) → f x ≡ g x) → (xs : List A) → some f xs ≡ some g xs
unfolding some
some_same f g e [] = refl
some_same f g e (x ∷ xs) = rw (e x, some_same f g e xs)

-- the record of an index
pub one_of_all : (f : Own → Bool) (o : Own) → some (λ p. f p && eqb (index_of p) (index_of o)) all ≡ f o
unfolding some
one_of_all f =
    by-record (λ o. some (λ p. f p && eqb (index_of p) (index_of o)) all ≡ f o) (simp (and-false, and-true, or-false)) (simp (and-false, and-true, or-false))
    (simp (and-false, and-true, or-false)) (simp (and-false, and-true, or-false)) (simp (and-false, and-true, or-false))
    (simp (and-false, and-true, or-false)) (simp (and-false, and-true, or-false))

-- ---- the packet

-- the set-up of a state that keeps the rules
pub right_setup : (s : State) → wrong_state s ≡ false → valid_setup s.setup ≡ true
unfolding wrong_state
right_setup s h = not-false (valid_setup s.setup) ((neither (not (valid_setup s.setup)) (wrong_start_draw s.progress.draw)).0 h).0
  where
    not-false : (b : Bool) → not b ≡ false → b ≡ true
    not-false true e = refl
    not-false false e = sym e

filled : (o : Own) (os : List Own) → o ∷ os ≡ [] → ⊥
filled o os z = let c : ◌≡◌ {A = ℕ} (length (o ∷ os)) 0 = ap length z in omega (arith, c)

-- a response is read back as its records, and none as none
module _ (s : Setup) (id : ℕ) (set : Set) (v : valid_setup s ≡ true) where
  none-back : response_records s set ≡ [] → answers_in (response_packet s id set) ≡ []
  unfolding response_packet message_at
  none-back e = rw e

  some_back : (response_records s set ≡ [] → ⊥) → answers_in (response_packet s id set) ≡ map (own_record s (response_style id)) (response_records s set)
  unfolding response_of
  some_back nz = ap answers_of (response_back s v id set nz)

  pub answers_back : answers_in (response_packet s id set) ≡ map (own_record s (response_style id)) (response_records s set)
  answers_back = go (response_records s set) refl
    where
      go : (os : List Own) → response_records s set ≡ os → answers_in (response_packet s id set) ≡ map (own_record s (response_style id)) (response_records s set)
      go [] e = none-back e ∙ sym (ap (map (own_record s (response_style id))) e)
      go (o ∷ os) e = some_back (λ z. filled o os (sym e ∙ z))

-- a record that is due is there
there : (r h t k w : Bool) → (((not r && (h && (t && k))) && w) && t) ≡ ((not r && (h && (t && k))) && w)
there true h t k w = refl
there false false t k w = refl
there false true false k w = refl
there false true true k w = and-true (k && w)

module _ (s : State) (a : Arrival) (l : Layout) (m : Message) (ok : Accepted s a l m) (port : a.port ≡ 5353) where
  from : from_mdns a.port ≡ true
  from = eq-eqb a.port 5353 port

  passed : ReceiveAccepted s a
  passed = receive-accepted s a ok.accepted

  right : valid_setup s.setup ≡ true
  right = right_setup s passed.right

  abbrev f : Facts
  f = facts_of s.setup m

  abbrev aaaa : Bool
  aaaa = s.setup.hasaaaa

  abbrev heard : Received
  heard = holding.receive_of s.progress (coming_of a) f aaaa

  sent_is : received_packet s a ≡ response_packet s.setup 0 heard.answers
  unfolding received_packet packet_for
  sent_is = simp (ok.accepted, ok.message, from)

  back_is : unicast_packet s a ≡ response_packet s.setup m.id heard.unicast
  unfolding unicast_packet
  back_is = simp (ok.accepted, ok.message, from)

  left : (receive_of s a).state.progress ≡ heard.progress
  unfolding receive_of
  left = simp (ok.accepted, ok.message, from)

  -- whether the message is held, by what it says
  held-is : to_hold s.progress.holds (coming_of a) f ≡ is_held_back s a m
  unfolding to_hold is_held_back facts_of response_facts query_facts
  held-is = go (is_response m.flags)
    where
      go : (r : Bool)
          → (not (cond r (response_facts s.setup m) (query_facts s.setup m)).response
          && ((cond r (response_facts s.setup m) (query_facts s.setup m)).truncated
          && ((not (cond r (response_facts s.setup m) (query_facts s.setup m)).instance.probe
          && not (cond r (response_facts s.setup m) (query_facts s.setup m)).host.probe)
          && (not (some_from a.from s.progress.holds) && some_free s.progress.holds))))
          ≡ (not r
          && (is_truncated m.flags
          && ((not (is_probe (claim_name s.setup Instance) m) && not (is_probe (claim_name s.setup Host) m))
          && (not (some_from a.from s.progress.holds) && some_free s.progress.holds))))
      go true = refl
      go false = refl

  -- a test that takes in that the record is there
  go : (g n w t : Bool) → (w && t) ≡ w → ((g && (n && w)) && t) ≡ (g && (n && w))
  go true true w t e = e
  go true false w t e = refl
  go false n w t e = refl

  -- by cases of what becomes of the message
  by-held : (P : Bool → Received → Type 0)
      → (is_held_back s a m ≡ true → P true (held_back s.progress (coming_of a) f))
      → (is_held_back s a m ≡ false → P false (judged_of s.progress (coming_of a) f aaaa))
      → P (is_held_back s a m) heard
  by-held P held judged =
      subst (λ (b : Bool). P b heard) held-is
      (held-or_judged s.progress (coming_of a) f aaaa P (λ e. held (sym held-is ∙ e)) (λ e. judged (sym held-is ∙ e)))

  goes_is : (o : Own) → has o heard.answers ≡ goes_now s a m o
  unfolding held_back judged_of at_once
  goes_is o =
      by-held (λ b r. has o r.answers ≡ (goes_at_once o && (not b && is_wanted s a.time m o)))
      (λ e. has-each (λ p. false) o ∙ sym (and-false (goes_at_once o)))
      (λ e.
      has-each (λ p. goes_at_once p && has p (wanted_of s.progress (multicast_asks s.progress f a.time) a.time aaaa)) o
      ∙ ap (λ (v : Bool). goes_at_once o && v) (wanted_exactly s a.time m o))

  unicast-is : (o : Own) → has o heard.unicast ≡ unicast_now s a m o
  unfolding held_back judged_of
  unicast-is o =
      by-held (λ b r. has o r.unicast ≡ (not b && is_unicast s a.time m o)) (λ e. has-each (λ p. false) o) (λ e. unicast-exactly s a.time m o)

  -- a record that goes out has no need of a second look at whether it is there
  goes_once : (o : Own) → (has o heard.answers && has_record s.setup o) ≡ goes_now s a m o
  unfolding is_due
  goes_once o =
      ap (λ (v : Bool). v && has_record s.setup o) (goes_is o)
      ∙ go (goes_at_once o) (not (is_held_back s a m)) (is_wanted s a.time m o) (has_record s.setup o)
      (there (is_response m.flags) (held_now (claim_of (claim_for o) s.progress)) (has_record s.setup o) (is_asked s.setup o m)
      (not (is_to_asker s a.time m o) && not (has_cause s a.time m o)))

  unicast-once : (o : Own) → (has o heard.unicast && has_record s.setup o) ≡ unicast_now s a m o
  unfolding is_due
  unicast-once o =
      ap (λ (v : Bool). v && has_record s.setup o) (unicast-is o)
      ∙ go true (not (is_held_back s a m)) (is_unicast s a.time m o) (has_record s.setup o)
      (there (is_response m.flags) (held_now (claim_of (claim_for o) s.progress)) (has_record s.setup o) (is_asked s.setup o m)
      (is_to_asker s a.time m o && not (is_known s.setup o m)))

  answered : answers_in (received_packet s a) ≡ map (own_record s.setup (response_style 0)) (picked (goes_now s a m) all)
  unfolding response_records
  answered =
      ap answers_in sent_is
      ∙ (answers_back s.setup 0 heard.answers right
      ∙ ap (map (own_record s.setup (response_style 0))) (picked_same (λ o. has o heard.answers && has_record s.setup o) (goes_now s a m) goes_once all))

  replied_back : answers_in (unicast_packet s a) ≡ map (own_record s.setup (response_style m.id)) (picked (unicast_now s a m) all)
  unfolding response_records
  replied_back =
      ap answers_in back_is
      ∙ (answers_back s.setup m.id heard.unicast right
      ∙ ap (map (own_record s.setup (response_style m.id)))
      (picked_same (λ o. has o heard.unicast && has_record s.setup o) (unicast_now s a m) unicast-once all))

  read_back : picked (unicast_now s a m) all ≢ [] → (n : Layout) × (message_at (unicast_packet s a) ≡ read n (unicast_answer s a m))
  unfolding response_of response_records
  read_back nz =
      let same : response_records s.setup heard.unicast ≡ picked (unicast_now s a m) all =
      picked_same (λ o. has o heard.unicast && has_record s.setup o) (unicast_now s a m) unicast-once all in
      let n : Layout = layout_of false (response_of s.setup m.id heard.unicast) in (
        n,
        ap message_at back_is
            ∙ (response_back s.setup right m.id heard.unicast (λ z. nz (sym same ∙ z))
            ∙ ap
            (λ (os : List Own).
            read n
            (record {
              id = m.id;
              flags = 0x8400;
              questions = [];
              answers = map (own_record s.setup (response_style m.id)) os;
              authorities = [];
              additionals = [];
            }))
            same),
      )

  -- of all own records the one of an owner and type
  stands : (id : ℕ) (test : Own → Bool) (o : Own) → stands_in s.setup o (map (own_record s.setup (response_style id)) (picked test all)) ≡ test o
  unfolding own_record
  stands id test o =
      some-picked (λ (r : Record). same_name r.owner (own_name s.setup o) && eqb r.rtype (own_type o)) (own_record s.setup (response_style id)) test all
      ∙ (some_same (λ p. test p && (same_name (own_name s.setup p) (own_name s.setup o) && eqb (own_type p) (own_type o)))
      (λ p. test p && eqb (index_of p) (index_of o))
      (λ p. ap (λ (v : Bool). test p && v) (apart s.setup (valid s.setup right) p o)) all
      ∙ one_of_all test o)

  goes : (o : Own) → goes_at_once o ≡ true → stands_in s.setup o (answers_in (received_packet s a)) ≡ wanted_now s a m o
  goes o g = ap (stands_in s.setup o) answered ∙ (stands 0 (goes_now s a m) o ∙ ap (λ (v : Bool). v && wanted_now s a m o) g)

  tells : (o : Own) → stands_in s.setup o (answers_in (unicast_packet s a)) ≡ unicast_now s a m o
  tells o = ap (stands_in s.setup o) replied_back ∙ stands m.id (unicast_now s a m) o

  one : is_held_back s a m ≡ false → (o : Own) → is_due s m o ≡ true → OneWay (wanted_now s a m o) (unicast_now s a m o) (has_cause s a.time m o)
  one e o d = rw e (ways (one_way_lem s a.time m o d))
    where
      ways : {w u c : Bool} → ((w ≡ true) × (u ≡ false)) ⊎ (((w ≡ false) × (u ≡ true)) ⊎ ((w ≡ false) × (u ≡ false) × (c ≡ true))) → OneWay w u c
      ways (inl x) = to_all x.0 x.1
      ways (inr (inl x)) = to_asker x.0 x.1
      ways (inr (inr x)) = left_out x.0 x.1 x.2

  marked-then : (o : Own) → sent_of o (receive_of s a).state.progress.sent ≡ cond (goes_now s a m o) (Some a.time) (sent_of o s.progress.sent)
  unfolding marked_all
  marked-then o =
      ap (λ (p : Progress). sent_of o p.sent) left
      ∙ (receive-sent (coming_of a) f aaaa s.progress o
      ∙ (sent_each (λ p. marked (has p heard.answers) (sent_of p s.progress.sent) a.time) o
      ∙ ap (λ (b : Bool). cond b (Some a.time) (sent_of o s.progress.sent)) (goes_is o)))

  late : a.time ≤ last_time
  unfolding wrong_time
  late = ltb-false last_time a.time ((neither (late_start a.time) (ltb a.time s.progress.last || not (kept last_kept s.progress))).0 passed.time).0

  small : (a.draw ≤ 120) × (a.hold ≤ 500)
  small = small-draws a.draw a.hold passed.drawn

  replied : (receive_of s a).state.progress.reply ≡ set_reply (wanted_now s a m Ptr) s.progress.reply (a.time + a.draw)
  unfolding held_back judged_of
  replied =
      ap (λ (p : Progress). p.reply) left
      ∙ by-held (λ b r. r.progress.reply ≡ set_reply (not b && is_wanted s a.time m Ptr) s.progress.reply (a.time + a.draw)) (λ e. sym (stays s.progress.reply))
      (λ e. simp (wanted_exactly s a.time m Ptr, after-exact a.time a.draw late (omega (arith, small.0))))
    where
      stays : (w : Option ℕ) → set_reply false w (a.time + a.draw) ≡ w
      stays None = refl
      stays (Some due) = refl

  -- what is kept is what the message says
  abbrev kept_to : ℕ → Hold
  kept_to due = record { from = a.from; due = Some due; asked = each (λ o. is_asked s.setup o m); known = each (λ o. is_known s.setup o m) }

  kept-is : is_held_back s a m ≡ true → hold_of (coming_of a) f ≡ kept_of s a m
  unfolding facts_of response_facts query_facts
  kept-is e =
      ap (λ (g : Facts). hold_of (coming_of a) g) (query-facts (is-query e))
      ∙ ap kept_to (after-exact a.time a.hold late (omega (arith, small.1)))
    where
      is-query : is_held_back s a m ≡ true → is_response m.flags ≡ false
      is-query h = sym (facts_are (is_response m.flags)) ∙ (held-truncated s.progress (coming_of a) f (held-is ∙ h)).query
        where
          facts_are : (b : Bool) → (cond b (response_facts s.setup m) (query_facts s.setup m)).response ≡ b
          facts_are true = refl
          facts_are false = refl

      query-facts : is_response m.flags ≡ false → facts_of s.setup m ≡ query_facts s.setup m
      query-facts h = rw h

  added_is : held_of (joined s.progress.holds (coming_of a) f) ≡ added_to s a m (held_of s.progress.holds)
  unfolding joined facts_of response_facts query_facts
  added_is = go (is_response m.flags)
    where
      go : (b : Bool)
          → held_of
          (cond (cond b (response_facts s.setup m) (query_facts s.setup m)).response s.progress.holds
          (knowing_all a.from (cond b (response_facts s.setup m) (query_facts s.setup m)).known s.progress.holds))
          ≡ cond b (held_of s.progress.holds) (map (knowing a.from (each (λ o. is_known s.setup o m))) (held_of s.progress.holds))
      go true = refl
      go false = knowing-held a.from (each (λ o. is_known s.setup o m)) s.progress.holds

  held_then :
      held_of (receive_of s a).state.progress.holds
      ≡ cond (is_held_back s a m) (held_of s.progress.holds ++ (kept_of s a m ∷ [])) (added_to s a m (held_of s.progress.holds))
  unfolding held_back judged_of
  held_then =
      ap (λ (p : Progress). held_of p.holds) left
      ∙ by-held
      (λ b r.
      held_of r.progress.holds ≡ cond b (held_of s.progress.holds ++ (kept_of s a m ∷ [])) (added_to s a m (held_of s.progress.holds)))
      (λ e.
      queued-last (hold_of (coming_of a) f) s.progress.holds refl (held-room s.progress (coming_of a) f (held-is ∙ e)).1
      ∙ ap (λ (h : Hold). held_of s.progress.holds ++ (h ∷ [])) (kept-is e))
      (λ e. added_is)

  least : a.time + 400 ≤ a.time + a.hold
  least = omega (arith, least-hold a.draw a.hold passed.drawn)

pub left-out_exactly : LeftOutExactly
left-out_exactly s a l m ok port = record {
  answers = answered s a l m ok port;
  goes = goes s a l m ok port;
  reply = replied s a l m ok port;
  back = replied_back s a l m ok port;
  reads = read_back s a l m ok port;
  tells = tells s a l m ok port;
  one_way = one s a l m ok port;
  marks = marked-then s a l m ok port;
  holds = held_then s a l m ok port;
  soonest = least s a l m ok port;
  latest = omega (arith, (small s a l m ok port).1);
}
