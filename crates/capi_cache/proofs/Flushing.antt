-- Rule 1 on a table in place, of which the first i entries are done; and where the loops begin and end. Assumes nothing.
use mathlib.Core.Path.{◌≡◌, refl, sym, ap, ◌∙◌}
use mathlib.Core.Bool.{Bool, true, false, not, and-false}
use mathlib.Core.List.{List, [], ◌∷◌}
use Prim.Native.Nat.{ℕ, zero, suc, ◌+◌, ◌<◌, ◌≤◌}
use native.Mathlib.Nat.{le_of_suc-le-suc, not-suc-le-zero, zero-add, suc-add, add-suc, add-zero}
use native.Mathlib.Numerals.{add-one}
use native.Mathlib.Omega.{arith}
use lib.ListN.{length, get_or, set, drop}
use lib.Seq.{set-get_or}
use borrow.Author.Tests.{ne_eqb}
use Rattle.cache.specs.entries.Entries.{blank, is_live, is_free}
use Rattle.cache.specs.entries.Tables.{slot_from, each}
use Rattle.cache.specs.declared.entries.Entry.{Entry}
use Rattle.cache.specs.declared.records.Heard.{Heard}
use Rattle.cache.specs.records.Heard.{is_flushing, is_sought, may_hold, has_bytes, is_of_heard, live_heard, holds_heard, flushed_heard, first_slot, is_filling, chosen_of}
use Rattle.cache.specs.records.Taking.{flushed_in, likely_from, equal_in, free_from, chosen_in}
use Rattle.cache.proofs.records.Rules.{flushed-length, flushes_none, may_wider, may_bytes}
use Rattle.capi_cache.specs.Types.{Passed}
use Rattle.capi_cache.proofs.Types.{passed_equal}
use Rattle.cache.proofs.records.Seeking.{not-before, steps-over, passes}
use Rattle.capi_cache.proofs.Mixed.{mixed, set-mixed, all-mixed}

pub first-within : (b : Bool) (n : ℕ) → first_slot b n ≤ n
first-within true n = omega arith
first-within false n = omega arith

-- the entry of a mixed list that is next, and the same after the rule
at-mixed : (i : ℕ) (xs ls : List Entry) → i < length ls → get_or (mixed i xs ls) i blank ≡ get_or ls i blank
at-mixed zero xs ls l = refl
at-mixed (suc i) xs [] l = refl
at-mixed (suc i) [] (y ∷ ls) l = refl
at-mixed (suc i) (x ∷ xs) (y ∷ ls) l = at-mixed i xs ls (le_of_suc-le-suc l)

at_each : (rule : ℕ → Entry → Entry) (k i : ℕ) (ls : List Entry) → i < length ls → get_or (each rule k ls) i blank ≡ rule (k + i) (get_or ls i blank)
unfolding each
at_each rule k i [] l = absurd (not-suc-le-zero l)
at_each rule k zero (y ∷ ls) l = ap (λ (j : ℕ). rule j y) (sym (add-zero k))
at_each rule k (suc i) (y ∷ ls) l = at_each rule (suc k) i ls (le_of_suc-le-suc l) ∙ ap (λ (j : ℕ). rule j (get_or ls i blank)) (suc-add k i ∙ sym (add-suc k i))

module _ (now : ℕ) (store slot : List ℕ) (h : Heard) (es : List Entry) where
  next_is : (i : ℕ) → i < length es → flushed_heard now store slot h i (get_or es i blank) ≡ get_or (flushed_in now store slot h es) i blank
  unfolding flushed_in
  next_is i l = sym (at_each (flushed_heard now store slot h) 0 i es l ∙ ap (λ (j : ℕ). flushed_heard now store slot h j (get_or es i blank)) (zero-add i))

  pub flush_on : (i : ℕ) → i < length es
      → set (mixed i (flushed_in now store slot h es) es) i (flushed_heard now store slot h i (get_or (mixed i (flushed_in now store slot h es) es) i blank)) ≡ mixed (i + 1) (flushed_in now store slot h es) es
  flush_on i l =
      let k = flushed-length now store slot h es in
      ap (λ (e : Entry). set (mixed i (flushed_in now store slot h es) es) i (flushed_heard now store slot h i e)) (at-mixed i (flushed_in now store slot h es) es l)
      ∙ ap (set (mixed i (flushed_in now store slot h es) es) i) (next_is i l)
      ∙ set-mixed i (flushed_in now store slot h es) es (omega (arith, l, k)) k
      ∙ ap (λ (j : ℕ). mixed j (flushed_in now store slot h es) es) (sym (add-one i))

  -- an entry of another type than the record's stays
  other-stays : (i : ℕ) (e : Entry) → (e.rtype ≡ h.at.rtype → ⊥) → flushed_heard now store slot h i e ≡ e
  unfolding flushed_heard live_heard is_of_heard
  other-stays i e n = simp (ne_eqb _ _ n, and-false (is_live now e), and-false (is_flushing h)) refl

  pub flush_past : (i : ℕ) → i < length es → ((get_or (mixed i (flushed_in now store slot h es) es) i blank).rtype ≡ h.at.rtype → ⊥)
      → mixed i (flushed_in now store slot h es) es ≡ mixed (i + 1) (flushed_in now store slot h es) es
  flush_past i l n =
      let zs = mixed i (flushed_in now store slot h es) es in
      sym (set-get_or zs i blank) ∙ ap (set zs i) (sym (other-stays i (get_or zs i blank) n)) ∙ flush_on i l

  pub flush_end : (i : ℕ) → i ≤ length es → length es ≤ i → mixed i (flushed_in now store slot h es) es ≡ flushed_in now store slot h es
  flush_end i a b =
      let k = flushed-length now store slot h es in
      let last : i ≡ length (flushed_in now store slot h es) = omega (arith, a, b, k) in
      ap (λ (j : ℕ). mixed j (flushed_in now store slot h es) es) last ∙ all-mixed (flushed_in now store slot h es) es k

  pub flush_start : mixed (first_slot (is_flushing h) (length es)) (flushed_in now store slot h es) es ≡ es
  flush_start = go (is_flushing h) refl
    where
      go : (b : Bool) → is_flushing h ≡ b → mixed (first_slot b (length es)) (flushed_in now store slot h es) es ≡ es
      go true e = refl
      go false e = ap (λ (l : List Entry). mixed (length es) l es) (flushes_none now store slot h es e) ∙ all-mixed es es refl

  -- what the searches give, and what is chosen by them: an entry that may not hold the record is stepped over
  pub equal_from : (i : ℕ) → slot_from (holds_heard now store slot h) (likely_from now h es i) (drop (likely_from now h es i) es) ≡ slot_from (holds_heard now store slot h) i (drop i es)
  unfolding likely_from
  equal_from i = steps-over (holds_heard now store slot h) (λ j e. may_hold now h e) (λ j e n. may_wider now store slot h j e n) es i

  pub bytes_test : (i : ℕ) → may_hold now h (get_or es i blank) ≡ true → (t : Bool) → has_bytes store slot h i (get_or es i blank) ≡ t → holds_heard now store slot h i (get_or es i blank) ≡ t
  bytes_test i k t e = sym (may_bytes now store slot h i (get_or es i blank) k) ∙ e

  pub equal_is : (near : ℕ) → Passed h.at.rtype es (first_slot (is_sought h) (length es)) near → slot_from (holds_heard now store slot h) (likely_from now h es near) (drop (likely_from now h es near) es) ≡ equal_in now store slot h es
  unfolding equal_in
  equal_is near p = equal_from near ∙ passed_equal now store slot h es (first_slot (is_sought h) (length es)) near p

  pub chosen_is : chosen_of h (length es) (equal_in now store slot h es) (free_from now es (first_slot (is_filling h (length es) (equal_in now store slot h es)) (length es))) ≡ chosen_in now store slot h es
  unfolding chosen_in
  chosen_is = refl

pub likely_is : (now : ℕ) (h : Heard) (es : List Entry) (from : ℕ) → slot_from (λ i e. may_hold now h e) from (drop from es) ≡ likely_from now h es from
unfolding likely_from
likely_is now h es from = refl

pub likely_after : (now : ℕ) (h : Heard) (es : List Entry) (from : ℕ) → from ≤ likely_from now h es from
unfolding likely_from
likely_after now h es from = not-before (λ i e. may_hold now h e) from (drop from es)

pub likely_may : (now : ℕ) (h : Heard) (es : List Entry) (from : ℕ) → likely_from now h es from < length es → may_hold now h (get_or es (likely_from now h es from) blank) ≡ true
unfolding likely_from
likely_may now h es from l = passes (λ i e. may_hold now h e) es from l

pub free_is : (now : ℕ) (es : List Entry) (from : ℕ) → slot_from (is_free now) from (drop from es) ≡ free_from now es from
unfolding free_from
free_is now es from = refl

pub free_test : (now i : ℕ) (e : Entry) → is_free now i e ≡ not (is_live now e)
unfolding is_free
free_test now i e = refl
