-- A search an entry at a time, which gives a slot as a number: it is that of the lowest entry that passes, and what fails a wider test may be stepped over.
-- Assumes nothing.
use Rattle.std.proofs.Common.{None, Option, Some}
use mathlib.Core.Path.{◌≡◌, refl, sym, ap, ◌∙◌, subst}
use mathlib.Core.List.{List, [], ◌∷◌}
use mathlib.Core.Bool.{Bool, true, false, cond}
use Prim.Native.Nat.{ℕ, zero, suc, ◌+◌, ◌<◌, ◌≤◌, max}
use native.Mathlib.Nat.{add-zero, add-suc, suc-add}
use native.Mathlib.Numerals.{add-one}
use native.Mathlib.Omega.{arith}
use lib.ListN.{length, get_or, drop, drop_of_length-le}
use lib.Dec.{ltb}
use borrow.Author.Tests.{ltb-true, ltb-false}
use Rattle.cache.specs.entries.Entries.{blank}
use Rattle.cache.specs.entries.Tables.{lowest, slot_from}
use Rattle.cache.specs.declared.entries.Entry.{Entry}
use Rattle.cache.proofs.entries.Searches.{at_slot}

module _ (test : ℕ → Entry → Bool) where
  -- the end at an entry that passes, a turn, and the end behind the last
  module _ (es : List Entry) (i : ℕ) where
    pub seek_here : i < length es → test i (get_or es i blank) ≡ true → i ≡ slot_from test i (drop i es)
    unfolding slot_from
    seek_here l t = sym (rw (at_slot es i l) (simp t))

    pub seek_on : i < length es → test i (get_or es i blank) ≡ false → slot_from test (i + 1) (drop (i + 1) es) ≡ slot_from test i (drop i es)
    unfolding slot_from
    seek_on l t = sym (rw (at_slot es i l) (simp t (ap (λ (k : ℕ). slot_from test k (drop (i + 1) es)) (sym (add-one i)))))

    pub seek_end : length es ≤ i → i ≡ slot_from test i (drop i es)
    unfolding slot_from
    seek_end l = sym (rw (drop_of_length-le es l))

  -- the end behind the last of a loop from a slot on, which may itself lie behind the last
  pub seek_last : (es : List Entry) (from i k : ℕ) → k ≡ max from (length es) → length es ≤ i → (from ≤ length es → i ≤ length es)
      → slot_from test i (drop i es) ≡ slot_from test from (drop from es) → k ≡ slot_from test from (drop from es)
  seek_last es from i k most end last same = go (ltb (length es) from) refl
    where
      go : (b : Bool) → ltb (length es) from ≡ b → k ≡ slot_from test from (drop from es)
      go true e = let lt = ltb-true (length es) from e in let at : k ≡ from = omega arith in at ∙ seek_end es from (omega arith)
      go false e =
          let le = ltb-false (length es) from e in
          let done = last le in
          let at : k ≡ i = omega arith in
          at ∙ seek_end es i end ∙ same

  pub not-before : (i : ℕ) (es : List Entry) → i ≤ slot_from test i es
  unfolding slot_from
  not-before i [] = omega arith
  not-before i (e ∷ es) = go (test i e) (not-before (suc i) es)
    where
      go : (b : Bool) → suc i ≤ slot_from test (suc i) es → i ≤ cond b i (slot_from test (suc i) es)
      go true l = omega arith
      go false l = omega (arith, l)

  -- a slot as a number, where n is none
  abbrev pub numbered : ℕ → Option ℕ → ℕ
  numbered n (Some i) = i
  numbered n None = n

  numbered_from : (i : ℕ) (es : List Entry) → slot_from test i es ≡ numbered (i + length es) (lowest test i es)
  unfolding slot_from lowest
  numbered_from i [] = sym (add-zero i)
  numbered_from i (e ∷ es) = go (test i e) (numbered_from (suc i) es ∙ ap (λ (n : ℕ). numbered n (lowest test (suc i) es)) (suc-add i (length es) ∙ sym (add-suc i (length es))))
    where
      go : (b : Bool) → slot_from test (suc i) es ≡ numbered (i + suc (length es)) (lowest test (suc i) es)
          → cond b i (slot_from test (suc i) es) ≡ numbered (i + suc (length es)) (cond b (Some i) (lowest test (suc i) es))
      go true rest = refl
      go false rest = rest

  pub numbered_all : (es : List Entry) → slot_from test 0 es ≡ numbered (length es) (lowest test 0 es)
  numbered_all es = numbered_from 0 es ∙ ap (λ (n : ℕ). numbered n (lowest test 0 es)) (omega arith)

-- entries that fail a wider test may be stepped over
module _ (test wider : ℕ → Entry → Bool) (narrower : (i : ℕ) (e : Entry) → wider i e ≡ false → test i e ≡ false) (es : List Entry) where
  abbrev next : ℕ → ℕ
  next i = slot_from wider i (drop i es)

  abbrev found : ℕ → ℕ
  found i = slot_from test i (drop i es)

  within : (k i : ℕ) → length es ≤ i + k → found (next i) ≡ found i
  within zero i l = ap found (sym (seek_end wider es i (omega (arith, l))))
  within (suc k) i l = go (ltb i (length es)) refl (wider i (get_or es i blank)) refl (within k (i + 1) (omega (arith, l)))
    where
      go : (b : Bool) → ltb i (length es) ≡ b → (t : Bool) → wider i (get_or es i blank) ≡ t → found (next (i + 1)) ≡ found (i + 1) → found (next i) ≡ found i
      go false e t f rest = ap found (sym (seek_end wider es i (ltb-false i (length es) e)))
      go true e true f rest = ap found (sym (seek_here wider es i (ltb-true i (length es) e) f))
      go true e false f rest =
          let lt = ltb-true i (length es) e in
          ap found (sym (seek_on wider es i lt f)) ∙ rest ∙ seek_on test es i lt (narrower i (get_or es i blank) f)

  pub steps-over : (i : ℕ) → found (next i) ≡ found i
  steps-over i = within (length es) i (omega arith)

-- the entry in a slot that was found passes
module _ (test : ℕ → Entry → Bool) (es : List Entry) where
  abbrev at : ℕ → ℕ
  at i = slot_from test i (drop i es)

  passes_within : (k i : ℕ) → length es ≤ i + k → at i < length es → test (at i) (get_or es (at i) blank) ≡ true
  passes_within zero i l m = absurd (let e = seek_end test es i (omega (arith, l)) in omega (arith, e, l, m))
  passes_within (suc k) i l m = go (ltb i (length es)) refl (test i (get_or es i blank)) refl (λ n. passes_within k (i + 1) (omega (arith, l)) n)
    where
      moved : (j : ℕ) → j ≡ at i → test j (get_or es j blank) ≡ true → test (at i) (get_or es (at i) blank) ≡ true
      moved j e h = subst (λ (x : ℕ). test x (get_or es x blank) ≡ true) e h

      go : (b : Bool) → ltb i (length es) ≡ b → (t : Bool) → test i (get_or es i blank) ≡ t → (at (i + 1) < length es → test (at (i + 1)) (get_or es (at (i + 1)) blank) ≡ true)
          → test (at i) (get_or es (at i) blank) ≡ true
      go false e t f rest = absurd (let n = ltb-false i (length es) e in let s = seek_end test es i n in omega (arith, s, n, m))
      go true e true f rest = moved i (seek_here test es i (ltb-true i (length es) e) f) f
      go true e false f rest = let s = seek_on test es i (ltb-true i (length es) e) f in moved (at (i + 1)) s (rest (omega (arith, s, m)))

  pub passes : (i : ℕ) → at i < length es → test (at i) (get_or es (at i) blank) ≡ true
  passes i m = passes_within (length es) i (omega arith) m
