-- A record that is due to a query goes out, or is left out for a cause of the specification, and never both; a record that is not due never goes out. A query may
-- be judged at once or when it was held. Of PTR the same decides whether a reply is set. Assumes nothing.
use Rattle.std.specs.Prelude.{Some, None}
use Prim.Native.Nat.{ℕ}
use mathlib.Core.Path.{◌≡◌, refl, ◌∙◌}
use mathlib.Core.Logic.{◌⊎◌, inl, inr}
use mathlib.Core.Bool.{Bool, true, false, cond, not, ◌&&◌, ◌||◌}
use native.Mathlib.Omega.{arith}
use Rattle.claims.specs.records.Own.{claim_for, present, goes_at_once, has}
use Rattle.claims.specs.records.Sets.{at_once}
use Rattle.claims.specs.Time.{after_ms, recently, sent_of, marked, marked_all}
use Rattle.claims.specs.Claims.{held_now, claim_of}
use Rattle.claims.specs.declared.records.Own.{Own}
use Rattle.claims.specs.declared.records.Own.TheVariants.{Ptr}
use Rattle.claims.specs.declared.Progress.{Progress}
use Rattle.claims.specs.answers.Answers.{gap_for, is_due, is_omitted, is_wanted, wanted_of, multicast_asks, judged_of}
use Rattle.claims.specs.answers.Held.{to_hold, held_back, receive_of}
use Rattle.claims.specs.declared.answers.Facts.{Facts}
use Rattle.claims.specs.declared.answers.Coming.{Coming}
use Rattle.claims.specs.declared.answers.Asks.{Asks}
use Rattle.claims.specs.declared.answers.Received.{Received}
use Rattle.claims.proofs.records.Sets.{has-each, sent_each}

clash : {A : Type 0} → ◌≡◌ {A = Bool} false true → A
clash h = let z : ◌≡◌ {A = ℕ} 0 1 = cc in absurd (omega arith)

module _ (progress : Progress) (now : ℕ) (q : Asks) (aaaa : Bool) where
  -- The record is due: its claim is held, there is such a record, and a question asks for it.
  pub record IsDue (r : Own) : Type 0 where
    pub held : held_now (claim_of (claim_for r) progress) ≡ true
    pub there : present r aaaa ≡ true
    pub asked : has r q.asked ≡ true

  -- the causes of the specification: (a) a known answer, (b) a multicast too short a time ago
  abbrev pub Cause : Own → Type 0
  Cause r = (has r q.known ≡ true) ⊎ (recently (sent_of r progress.sent) now (gap_for (claim_for r) q) ≡ true)

  -- the record is due, and omitted, as tests
  abbrev pub due : Own → Bool
  due r = is_due progress q aaaa r

  abbrev pub left_out : Own → Bool
  left_out r = is_omitted progress q now r

  pub wanted_by_lem : (r : Own) → has r (wanted_of progress q now aaaa) ≡ (due r && not (left_out r))
  unfolding wanted_of
  wanted_by_lem r = has-each (is_wanted progress q now aaaa) r

  is-due : (r : Own) → IsDue r → due r ≡ true
  is-due r d = simp (d.held, d.there, d.asked)

  or_cause : (known recent : Bool) → (known || recent) ≡ true → (known ≡ true) ⊎ (recent ≡ true)
  or_cause true recent h = inl refl
  or_cause false recent h = inr h

  due-left : (d o : Bool) → d ≡ true → (d && not o) ≡ false → o ≡ true
  due-left true true e h = refl
  due-left true false e h = clash (cc)
  due-left false o e h = clash (cc)

  -- A record that is due and does not go out is left out for a cause of the specification.
  pub left-out_for_a_cause : (r : Own) → IsDue r → has r (wanted_of progress q now aaaa) ≡ false → Cause r
  left-out_for_a_cause r d h =
      or_cause (has r q.known) (recently (sent_of r progress.sent) now (gap_for (claim_for r) q))
      (due-left (due r) (left_out r) (is-due r d) (rw (wanted_by_lem r) at h))

  stays_out : (d o : Bool) → o ≡ true → (d && not o) ≡ false
  stays_out true true e = refl
  stays_out true false e = clash e
  stays_out false o e = refl

  cause_left_out : (r : Own) → Cause r → left_out r ≡ true
  cause_left_out r (inl known) = simp known
  cause_left_out r (inr recent) = go (has r q.known) (recently (sent_of r progress.sent) now (gap_for (claim_for r) q)) recent
    where
      go : (a b : Bool) → b ≡ true → (a || b) ≡ true
      go true b e = refl
      go false b e = e

  -- A record with a cause of the specification does not go out.
  pub left-out_by_a_cause : (r : Own) → Cause r → has r (wanted_of progress q now aaaa) ≡ false
  left-out_by_a_cause r c = rw (wanted_by_lem r) (stays_out (due r) (left_out r) (cause_left_out r c))

  goes : (d o : Bool) → d ≡ true → (o ≡ true → ⊥) → (d && not o) ≡ true
  goes true true e n = absurd (n refl)
  goes true false e n = refl
  goes false o e n = clash e

  -- A record that is due goes out where it has no cause.
  pub goes_out : (r : Own) → IsDue r → (Cause r → ⊥) → has r (wanted_of progress q now aaaa) ≡ true
  goes_out r d n =
      rw (wanted_by_lem r)
      (goes (due r) (left_out r) (is-due r d)
      (λ o. n (or_cause (has r q.known) (recently (sent_of r progress.sent) now (gap_for (claim_for r) q)) o)))

  due-parts : (held there asked : Bool) → (held && (there && asked)) ≡ true → (held ≡ true) × (there ≡ true) × (asked ≡ true)
  due-parts true true asked h = (refl, refl, h)
  due-parts true false asked h = clash h
  due-parts false there asked h = clash h

  first : (d o : Bool) → (d && not o) ≡ true → d ≡ true
  first true o h = refl
  first false o h = h

  -- What goes out is due.
  pub only-due : (r : Own) → has r (wanted_of progress q now aaaa) ≡ true → IsDue r
  only-due r h =
      let p : (held_now (claim_of (claim_for r) progress) ≡ true) × (present r aaaa ≡ true) × (has r q.asked ≡ true) =
      due-parts (held_now (claim_of (claim_for r) progress)) (present r aaaa) (has r q.asked)
      (first (due r) (left_out r) (rw (wanted_by_lem r) at h)) in
      record { held = p.0; there = p.1; asked = p.2 }

-- ---- a packet received that is judged at once

module _ (progress : Progress) (c : Coming) (f : Facts) (aaaa : Bool) where
  -- A record that goes at once, as all but PTR do, goes out where it is wanted; and PTR never does.
  pub at-once : (r : Own) → goes_at_once r ≡ true → has r (judged_of progress c f aaaa).answers ≡ has r (wanted_of progress (multicast_asks progress f c.now) c.now aaaa)
  unfolding judged_of at_once
  at-once r e = has-each (λ o. goes_at_once o && has o (wanted_of progress (multicast_asks progress f c.now) c.now aaaa)) r ∙ rw e

  pub ptr_later : has Ptr (judged_of progress c f aaaa).answers ≡ false
  unfolding judged_of at_once
  ptr_later = refl

  -- each record that goes out is then multicast at `now`, and no other
  pub sent_then :
      (r : Own)
      → sent_of r (judged_of progress c f aaaa).progress.sent ≡ marked (has r (judged_of progress c f aaaa).answers) (sent_of r progress.sent) c.now
  unfolding judged_of marked_all
  sent_then r = sent_each (λ o. marked (has o (judged_of progress c f aaaa).answers) (sent_of o progress.sent) c.now) r

  -- A PTR reply that is set stays as it is.
  pub reply-stays : (at : ℕ) → progress.reply ≡ Some at → (judged_of progress c f aaaa).progress.reply ≡ Some at
  unfolding judged_of
  reply-stays at e = rw e

  -- Where none is set, one is set at now plus the draw for a PTR that is due and has no cause; else none.
  pub reply-set :
      progress.reply ≡ None
      → IsDue progress c.now (multicast_asks progress f c.now) aaaa Ptr
      → (Cause progress c.now (multicast_asks progress f c.now) aaaa Ptr → ⊥)
      → (judged_of progress c f aaaa).progress.reply ≡ Some (after_ms c.now c.draw)
  unfolding judged_of
  reply-set e d n = simp (e, goes_out progress c.now (multicast_asks progress f c.now) aaaa Ptr d n)

  pub reply-unset :
      progress.reply ≡ None → has Ptr (wanted_of progress (multicast_asks progress f c.now) c.now aaaa) ≡ false → (judged_of progress c f aaaa).progress.reply ≡ None
  unfolding judged_of
  reply-unset e h = simp (e, h)

  -- A message is held, or judged at once.
  pub held-or_judged : (P : Bool → Received → Type 0)
      → (to_hold progress.holds c f ≡ true → P true (held_back progress c f))
      → (to_hold progress.holds c f ≡ false → P false (judged_of progress c f aaaa))
      → P (to_hold progress.holds c f) (receive_of progress c f aaaa)
  unfolding receive_of
  held-or_judged P held judged = go (to_hold progress.holds c f) refl
    where
      go : (b : Bool) → to_hold progress.holds c f ≡ b → P b (cond b (held_back progress c f) (judged_of progress c f aaaa))
      go true e = held e
      go false e = judged e
