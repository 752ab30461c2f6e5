-- What a tick sends for a held query: exactly the records that it asked for, that are due then and have no cause. Assumes nothing.
use Rattle.std.specs.Prelude.{Option, Some, None}
use Prim.Native.Nat.{ℕ, ◌+◌, ◌≤◌}
use mathlib.Core.Path.{◌≡◌, refl, sym, ap, ◌∙◌}
use mathlib.Core.Bool.{Bool, true, false, not, ◌&&◌, ◌||◌, and-true}
use mathlib.Core.List.{List, [], ◌∷◌, map}
use native.Mathlib.Omega.{arith}
use borrow.Author.Tests.{leb-true}
use mathlib.Mathlib.Data.Bool.Basic.{or-eq-false-eq-eq-false-and-eq-false as neither}
use Rattle.own.specs.records.Setups.{valid_setup}
use Rattle.own.specs.records.Records.{has_record}
use Rattle.claims.specs.Time.{due_by, recently, sent_of}
use Rattle.claims.specs.Claims.{held_now, claim_of}
use Rattle.claims.specs.records.Own.{all, claim_for, present, has}
use Rattle.claims.specs.records.Sets.{some_of, picked, any_of}
use Rattle.claims.specs.holds.Holds.{no_hold, hold_at, some_from, some_free}
use Rattle.claims.specs.answers.Answers.{heard_for, asks_of, asked_by, multicast_asks, unicast_asks, asks_of_hold, gap_for, is_wanted, wanted_of, joined, judged_of}
use Rattle.claims.specs.answers.Held.{to_hold, receive_of}
use Rattle.claims.specs.declared.answers.Facts.{Facts}
use Rattle.claims.specs.declared.answers.Coming.{Coming}
use Rattle.claims.proofs.answers.Asking.{probe-judged, fifth_judged, again-judged, whole-judged, judged_is}
use Rattle.claims.specs.steps.Tick.{hold_answers}
use Rattle.claims.specs.declared.records.Claim.{Claim}
use Rattle.claims.specs.declared.records.Claim.TheVariants.{Instance, Host}
use Rattle.claims.specs.declared.records.Own.{Own}
use Rattle.claims.specs.declared.records.Set.{Set}
use Rattle.claims.specs.declared.Progress.{Progress}
use Rattle.claims.specs.declared.holds.Hold.{Hold}
use Rattle.claims.specs.declared.holds.Place.{Place}
use Rattle.claims.specs.declared.steps.Output.TheVariants.{Response}
use Rattle.claims.proofs.records.Sets.{has-each}
use Rattle.claims.proofs.steps.Holding as move
use Rattle.claims.proofs.steps.Holding.{HoldMove, tick-hold}
use Rattle.writer.specs.own_packets.Styles.{response_style, own_record}
use Rattle.writer.specs.own_packets.Own.{response_records, response_packet}
use Rattle.responder.specs.Handed.{Tick}
use Rattle.responder.specs.Refusals.{tick_refusal}
use Rattle.responder.specs.Calls.{packet_for, walked_of, ticked_packet, tick_of}
use Rattle.responder.specs.declared.State.{State}
use Rattle.responder.proofs.Refusals.{tick-accepted}
use Rattle.causes.specs.Statement.{answers_in, is_wanted_by, wanted_by, Step, waits, answered, passed, AnsweredExactly}
use Rattle.causes.proofs.Exactly.{picked_same, answers_back, right_setup}

-- a time that has come is a time
come : (w : Option ℕ) (now : ℕ) → due_by w now ≡ true → (due : ℕ) × (w ≡ Some due) × (due ≤ now)
come None now e = let z : ◌≡◌ {A = ℕ} 0 1 = cc in absurd (omega arith)
come (Some due) now e = (due, refl, leb-true due now e)

-- nothing is picked where no test holds
none-picked : {A : Type 0} (f g : A → Bool) (xs : List A) → some_of f xs ≡ false → picked (λ x. f x && g x) xs ≡ []
unfolding some_of picked
none-picked f g [] e = refl
none-picked f g (x ∷ xs) e =
    let n = (neither (f x) (some_of f xs)).0 e in
    rw n.0 (none-picked f g xs n.1)

module _ (s : State) (t : Tick) (place : Place) (ok : tick_refusal s t ≡ 0) where
  abbrev h : Hold
  h = hold_at place s.progress.holds

  abbrev aaaa : Bool
  aaaa = s.setup.hasaaaa

  abbrev set : Set
  set = hold_answers place aaaa t.time s.progress

  right : valid_setup s.setup ≡ true
  right = right_setup s (tick-accepted s t ok).right

  gap_is : (k : Claim) → gap_for k (asks_of_hold h) ≡ 1000
  gap_is Instance = refl
  gap_is Host = refl

  wanted_is : (o : Own) → (has o set && has_record s.setup o) ≡ is_wanted_by s t.time h o
  unfolding hold_answers wanted_of has_record
  wanted_is o =
      ap (λ (v : Bool). v && has_record s.setup o) (has-each (is_wanted s.progress (asks_of_hold h) t.time aaaa) o)
      ∙ rw (gap_is (claim_for o))
      (go (held_now (claim_of (claim_for o) s.progress)) (present o aaaa) (has o h.asked)
      (has o h.known || recently (sent_of o s.progress.sent) t.time 1000))
    where
      go : (g p k c : Bool) → (((g && (p && k)) && not c) && p) ≡ ((g && (p && k)) && not c)
      go false p k c = refl
      go true false k c = refl
      go true true k c = and-true (k && not c)

  wanted_records : picked (λ o. has o set && has_record s.setup o) all ≡ wanted_by s t.time h
  wanted_records = picked_same (λ o. has o set && has_record s.setup o) (is_wanted_by s t.time h) wanted_is all

  after_is : (tick_of s t).state.progress ≡ (walked_of s t.time).progress
  unfolding tick_of
  after_is = simp ok

  place_is : (x : Hold) → hold_at place (walked_of s t.time).progress.holds ≡ x → hold_at place (tick_of s t).state.progress.holds ≡ x
  place_is x e = ap (λ (p : Progress). hold_at place p.holds) after_is ∙ e

  written : ticked_packet s t ≡ packet_for s.setup (walked_of s t.time).output
  unfolding ticked_packet
  written = simp ok

  packet_is : (walked_of s t.time).output ≡ Response set → ticked_packet s t ≡ response_packet s.setup 0 set
  unfolding packet_for
  packet_is e = written ∙ ap (packet_for s.setup) e

  sent_records : (walked_of s t.time).output ≡ Response set
      → answers_in (ticked_packet s t) ≡ map (own_record s.setup (response_style 0)) (wanted_by s t.time h)
  unfolding response_records
  sent_records e = ap answers_in (packet_is e) ∙ (answers_back s.setup 0 set right ∙ ap (map (own_record s.setup (response_style 0))) wanted_records)

  none-wanted : any_of set ≡ false → wanted_by s t.time h ≡ []
  unfolding any_of
  none-wanted e = sym wanted_records ∙ none-picked (λ o. has o set) (has_record s.setup) all e

  by_move : HoldMove place aaaa t.time s.progress (walked_of s t.time).progress (walked_of s t.time).output → Step s t place
  by_move (move.waits e) = waits (place_is _ e)
  by_move (move.answered d e o) = let w = come h.due t.time d in answered w.0 w.1 w.2 (place_is no_hold e) (sent_records o)
  by_move (move.passes d e n) = let w = come h.due t.time d in passed w.0 w.1 w.2 (place_is no_hold e) (none-wanted n)

pub answered_exactly : AnsweredExactly
answered_exactly s t place ok = by_move s t place ok (tick-hold place s.setup.hasaaaa t.time s.progress)

-- A query that was held at `time` with a draw of 400 to 500, and that is answered or passed at most 50 ms after it is due, is so no earlier than 400 ms and at
-- most 550 ms after it came.
pub in_time_lem : (time hold now : ℕ) → 400 ≤ hold → hold ≤ 500 → time + hold ≤ now → now ≤ (time + hold) + 50 → (time + 400 ≤ now) × (now ≤ time + 550)
in_time_lem time hold now least most due soon = (omega arith, omega arith)

-- ---- "A fifth is judged as if without TC."

-- what a message says, but for its TC bit
abbrev pub without_tc : Facts → Facts
without_tc f = record { response = f.response; truncated = false; asked = f.asked; qm = f.qm; known = f.known; instance = f.instance; host = f.host }

-- a message that is not held is judged as if without TC
pub as_without_tc :
    (progress : Progress) (c : Coming) (f : Facts) (aaaa : Bool) → to_hold progress.holds c f ≡ false
    → receive_of progress c f aaaa ≡ receive_of progress c (without_tc f) aaaa
unfolding judged_of multicast_asks unicast_asks asked_by asks_of joined
as_without_tc progress c f aaaa e =
    judged_is f progress c aaaa e ∙ sym (judged_is (without_tc f) progress c aaaa (whole-judged (without_tc f) progress.holds c refl))

pub fifth :
    (progress : Progress) (c : Coming) (f : Facts) (aaaa : Bool) → some_free progress.holds ≡ false
    → receive_of progress c f aaaa ≡ receive_of progress c (without_tc f) aaaa
fifth progress c f aaaa e = as_without_tc progress c f aaaa (fifth_judged f progress.holds c e)

-- and so is a later query of an address of which one is held, and a probe
pub again :
    (progress : Progress) (c : Coming) (f : Facts) (aaaa : Bool) → some_from c.from progress.holds ≡ true
    → receive_of progress c f aaaa ≡ receive_of progress c (without_tc f) aaaa
again progress c f aaaa e = as_without_tc progress c f aaaa (again-judged f progress.holds c e)

pub probe :
    (progress : Progress) (c : Coming) (f : Facts) (aaaa : Bool) (k : Claim) → (heard_for k f).probe ≡ true
    → receive_of progress c f aaaa ≡ receive_of progress c (without_tc f) aaaa
probe progress c f aaaa k e = as_without_tc progress c f aaaa (probe-judged f progress.holds c k e)
