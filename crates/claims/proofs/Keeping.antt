-- Which changes leave every time that is kept at most `most`. Assumes nothing.
use Rattle.std.specs.Prelude.{Option}
use Prim.Native.Nat.{ℕ, ◌≤◌}
use mathlib.Core.Path.{◌≡◌, refl}
use mathlib.Core.Bool.{Bool, true, false, cond, ◌&&◌}
use native.Mathlib.Omega.{arith}
use lib.Dec.{leb}
use borrow.Author.Tests.{le-leb}
use Rattle.claims.specs.records.Own.{has}
use Rattle.claims.specs.records.Sets.{every_of}
use Rattle.claims.specs.Time.{last_time, last_due, after_ms, at_most, sent_of, marked, marked_all}
use Rattle.claims.specs.Claims.{after_conflict, after_probe, begun_at}
use Rattle.claims.specs.Refusals.{claim_kept, multicasts_kept, hold_kept, holds_kept, kept}
use Rattle.claims.specs.holds.Holds.{no_hold, with_hold, is_taken, is_from, union, knowing, knowing_all, queued}
use Rattle.claims.specs.declared.ClaimState.{ClaimState}
use Rattle.claims.specs.declared.ClaimState.TheVariants.{Waiting, Probing1, Probing2, Probing3, Deferred, Announced, Held, Lost}
use Rattle.claims.specs.declared.Multicasts.{Multicasts}
use Rattle.claims.specs.declared.records.Set.{Set}
use Rattle.claims.specs.declared.holds.Address.{Address}
use Rattle.claims.specs.declared.holds.Hold.{Hold}
use Rattle.claims.specs.declared.holds.Holds.{Holds}
use Rattle.claims.specs.declared.holds.Place.{Place}
use Rattle.claims.specs.declared.holds.Place.TheVariants.{First, Second, Third, Fourth}
use Rattle.claims.specs.declared.Progress.{Progress}
use Rattle.claims.proofs.records.Sets.{every-at, every-from, sent_each}
use Rattle.claims.proofs.Times.{after-within}

-- the tests of the times that are kept, all passed
pub record AllKept (a b c d e f g : Bool) : Type 0 where
  pub instance : a ≡ true
  pub host : b ≡ true
  pub sent : c ≡ true
  pub reply : d ≡ true
  pub holds : e ≡ true
  pub updated : f ≡ true
  pub last : g ≡ true

clash : {A : Type 0} → ◌≡◌ {A = Bool} false true → A
clash h = let z : ◌≡◌ {A = ℕ} 0 1 = cc in absurd (omega arith)

pub apart : (a b c d e f g : Bool) → (a && (b && (c && (d && (e && (f && g)))))) ≡ true → AllKept a b c d e f g
apart true true true true true true g h = record { instance = refl; host = refl; sent = refl; reply = refl; holds = refl; updated = refl; last = h }
apart true true true true true false g h = clash h
apart true true true true false f g h = clash h
apart true true true false e f g h = clash h
apart true true false d e f g h = clash h
apart true false c d e f g h = clash h
apart false b c d e f g h = clash h

pub together : {a b c d e f g : Bool} → AllKept a b c d e f g → (a && (b && (c && (d && (e && (f && g)))))) ≡ true
together k = simp (k.instance, k.host, k.sent, k.reply, k.holds, k.updated, k.last)

module _ (most : ℕ) where
  -- the times that are kept, one by one
  abbrev pub Parts : ClaimState → ClaimState → Multicasts → Option ℕ → Holds → Option ℕ → ℕ → Type 0
  Parts instance host sent reply holds updated last =
      AllKept (claim_kept most instance) (claim_kept most host) (multicasts_kept most sent) (at_most most reply) (holds_kept most holds)
      (at_most most updated) (leb last most)

  abbrev pub PartsOf : Progress → Type 0
  PartsOf progress = Parts progress.instance progress.host progress.sent progress.reply progress.holds progress.updated progress.last

  pub parts : (progress : Progress) → kept most progress ≡ true → PartsOf progress
  unfolding kept
  parts progress h = apart _ _ _ _ _ _ _ h

  pub whole : (progress : Progress) → PartsOf progress → kept most progress ≡ true
  unfolding kept
  whole progress p = together p

  marked-kept : (went : Bool) (s : Option ℕ) (now : ℕ) → at_most most s ≡ true → leb now most ≡ true → at_most most (marked went s now) ≡ true
  marked-kept true s now h l = l
  marked-kept false s now h l = h

  pub all-marked_kept :
      (set : Set) (sent : Multicasts) (now : ℕ)
      → multicasts_kept most sent ≡ true
      → leb now most ≡ true
      → multicasts_kept most (marked_all set sent now) ≡ true
  unfolding multicasts_kept marked_all
  all-marked_kept set sent now h l =
      every-from (λ o. at_most most (sent_of o (marked_all set sent now)))
      (λ o.
      rw (sent_each (λ p. marked (has p set) (sent_of p sent) now) o)
      (marked-kept (has o set) (sent_of o sent) now (every-at (λ p. at_most most (sent_of p sent)) o h) l))

  pub conflict_kept : (c : ClaimState) (due : ℕ) → claim_kept most c ≡ true → leb due most ≡ true → claim_kept most (after_conflict c due) ≡ true
  conflict_kept (Waiting was) due h l = refl
  conflict_kept (Probing1 was) due h l = refl
  conflict_kept (Probing2 was) due h l = refl
  conflict_kept (Probing3 was) due h l = refl
  conflict_kept (Deferred was) due h l = refl
  conflict_kept (Announced was) due h l = l
  conflict_kept Held due h l = l
  conflict_kept Lost due h l = refl

  pub probe-kept : (c : ClaimState) (due : ℕ) → claim_kept most c ≡ true → leb due most ≡ true → claim_kept most (after_probe c due) ≡ true
  probe-kept (Waiting was) due h l = h
  probe-kept (Probing1 was) due h l = l
  probe-kept (Probing2 was) due h l = l
  probe-kept (Probing3 was) due h l = l
  probe-kept (Deferred was) due h l = h
  probe-kept (Announced was) due h l = h
  probe-kept Held due h l = refl
  probe-kept Lost due h l = refl

  -- the due times of held queries, place by place
  pub record FourKept (holds : Holds) : Type 0 where
    pub first : hold_kept most holds.first ≡ true
    pub second : hold_kept most holds.second ≡ true
    pub third : hold_kept most holds.third ≡ true
    pub fourth : hold_kept most holds.fourth ≡ true

  pub four_kept : (holds : Holds) → holds_kept most holds ≡ true → FourKept holds
  unfolding holds_kept every_of
  four_kept holds h =
      go (hold_kept most holds.first) (hold_kept most holds.second) (hold_kept most holds.third) (hold_kept most holds.fourth) refl refl refl refl h
    where
      go : (a b c d : Bool)
          → hold_kept most holds.first ≡ a
          → hold_kept most holds.second ≡ b
          → hold_kept most holds.third ≡ c
          → hold_kept most holds.fourth ≡ d
          → (a && (b && (c && (d && true)))) ≡ true
          → FourKept holds
      go true true true true e f g i k = record { first = e; second = f; third = g; fourth = i }
      go true true true false e f g i k = clash k
      go true true false d e f g i k = clash k
      go true false c d e f g i k = clash k
      go false b c d e f g i k = clash k

  pub kept-four : (holds : Holds) → FourKept holds → holds_kept most holds ≡ true
  unfolding holds_kept every_of
  kept-four holds k = simp (k.first, k.second, k.third, k.fourth)

  -- a place that is freed, known answers that are added, and a query that is held, with its due time within bounds
  pub without-kept : (place : Place) (holds : Holds) → holds_kept most holds ≡ true → holds_kept most (with_hold place no_hold holds) ≡ true
  without-kept First holds h =
      let k = four_kept holds h in kept-four _ (record { first = refl; second = k.second; third = k.third; fourth = k.fourth })
  without-kept Second holds h =
      let k = four_kept holds h in kept-four _ (record { first = k.first; second = refl; third = k.third; fourth = k.fourth })
  without-kept Third holds h =
      let k = four_kept holds h in kept-four _ (record { first = k.first; second = k.second; third = refl; fourth = k.fourth })
  without-kept Fourth holds h =
      let k = four_kept holds h in kept-four _ (record { first = k.first; second = k.second; third = k.third; fourth = refl })

  knowing-kept : (from : Address) (known : Set) (h : Hold) → hold_kept most h ≡ true → hold_kept most (knowing from known h) ≡ true
  unfolding knowing
  knowing-kept from known h k = go (is_from from h)
    where
      go : (b : Bool) → hold_kept most (cond b (record { from = h.from; due = h.due; asked = h.asked; known = union h.known known }) h) ≡ true
      go true = k
      go false = k

  pub knowing-all_kept : (from : Address) (known : Set) (holds : Holds) → holds_kept most holds ≡ true → holds_kept most (knowing_all from known holds) ≡ true
  unfolding knowing_all
  knowing-all_kept from known holds h =
      let k = four_kept holds h in
      kept-four _
      (record {
        first = knowing-kept from known holds.first k.first;
        second = knowing-kept from known holds.second k.second;
        third = knowing-kept from known holds.third k.third;
        fourth = knowing-kept from known holds.fourth k.fourth;
      })

  pub queued-kept : (new : Hold) (holds : Holds) → hold_kept most new ≡ true → holds_kept most holds ≡ true → holds_kept most (queued new holds) ≡ true
  unfolding queued
  queued-kept new holds n h =
      let k = four_kept holds h in
      go k (is_taken holds.first) (is_taken holds.second) (is_taken holds.third) (is_taken holds.fourth)
    where
      go : FourKept holds → (a b c d : Bool)
          → holds_kept most
          (cond a
          (cond b
          (cond c
          (cond d holds (record { first = holds.first; second = holds.second; third = holds.third; fourth = new }))
          (record { first = holds.first; second = holds.second; third = holds.fourth; fourth = new }))
          (record { first = holds.first; second = holds.third; third = holds.fourth; fourth = new }))
          (record { first = holds.second; second = holds.third; third = holds.fourth; fourth = new })) ≡ true
      go k true true true true = h
      go k true true true false = kept-four _ (record { first = k.first; second = k.second; third = k.third; fourth = n })
      go k true true false d = kept-four _ (record { first = k.first; second = k.second; third = k.fourth; fourth = n })
      go k true false c d = kept-four _ (record { first = k.first; second = k.third; third = k.fourth; fourth = n })
      go k false b c d = kept-four _ (record { first = k.second; second = k.third; third = k.fourth; fourth = n })

  -- a start that is not refused keeps no time above 2^62 + 1,000
  pub start-kept : (now draw : ℕ) → now ≤ last_time → draw ≤ 250 → last_due ≤ most → kept most (begun_at now draw) ≡ true
  unfolding kept begun_at multicasts_kept holds_kept every_of
  start-kept now draw h d l =
      let w : leb (after_ms now draw) most ≡ true = le-leb _ _ (after-within now draw most h (omega arith) l) in
      let n : leb now most ≡ true = le-leb now most (omega arith) in
      simp (w, n)
