-- A number, digit by digit. Assumes nothing.
use Rattle.std.specs.Prelude.{Some, None}
use mathlib.Core.Path.{◌≡◌, sym, ◌∙◌}
use mathlib.Core.List.{List, [], ◌∷◌}
use mathlib.Core.Bool.{false, and-false}
use Prim.Native.Nat.{ℕ, ◌+◌, ◌-◌, ◌*◌, ◌≤◌, ◌<◌}
use native.Mathlib.Omega.{arith}
use native.Mathlib.Numerals.{add-one}
use lib.ListN.{length, get_or, drop, drop_of_length-le}
use lib.Seq.{drop-cons}
use borrow.Author.Tests.{lt-ltb, le-ltb}
use Rattle.console_text.specs.lines.Numbers.{is_digit, all_digits, value_from, number_from, number_of}
use Rattle.console_text.proofs.lines.Ranges.{inside, below, above}

pub number-none : (l : List ℕ) → length l ≡ 0 → None ≡ number_of l
unfolding number_of
number-none l e = simp (e)

pub number-some : (l : List ℕ) → (length l ≡ 0 → ⊥) → number_of l ≡ number_from 0 l
unfolding number_of
number-some l ne = let h : 0 < length l = omega arith in simp (lt-ltb 0 (length l) h)

-- more digits never make a number smaller
value_grows : (v : ℕ) (l : List ℕ) → v ≤ value_from v l
unfolding value_from
value_grows v [] = omega arith
value_grows v (b ∷ bs) = omega (arith, value_grows (v * 10 + (b - 48)) bs)

over : (v : ℕ) (l : List ℕ) → 18446744073709551616 ≤ v → number_from v l ≡ None
unfolding number_from
over v l h =
    let k : 18446744073709551616 ≤ value_from v l = omega (arith, value_grows v l) in
    simp (le-ltb (value_from v l) 18446744073709551616 k, and-false)

module _ (l : List ℕ) (v i : ℕ) (inv : number_of l ≡ number_from v (drop i l)) where
  pub number-end : length l ≤ i → v < 18446744073709551616 → Some v ≡ number_of l
  unfolding number_from all_digits value_from
  number-end h k = sym (inv ∙ rw (drop_of_length-le l h) (simp (lt-ltb v 18446744073709551616 k)))

  module _ (h : i < length l) where
    other : is_digit (get_or l i 0) ≡ false → None ≡ number_of l
    unfolding number_from all_digits
    other e = sym (inv ∙ rw (drop-cons l i 0 h) (simp e))

    pub number-low : get_or l i 0 < 48 → None ≡ number_of l
    number-low k = other (below 48 57 (get_or l i 0) k)

    pub number-high : 57 < get_or l i 0 → None ≡ number_of l
    number-high k = other (above 48 57 (get_or l i 0) (omega arith) k)

    pub number-digit : 48 ≤ get_or l i 0 → get_or l i 0 ≤ 57 → number_of l ≡ number_from (v * 10 + (get_or l i 0 - 48)) (drop (i + 1) l)
    unfolding number_from all_digits value_from
    number-digit j k = inv ∙ rw (add-one, drop-cons l i 0 h) (simp (inside 48 57 (get_or l i 0) j k))

    pub number-over : 48 ≤ get_or l i 0 → get_or l i 0 ≤ 57 → 18446744073709551616 ≤ v * 10 + (get_or l i 0 - 48) → None ≡ number_of l
    number-over j k o = sym (number-digit j k ∙ over (v * 10 + (get_or l i 0 - 48)) (drop (i + 1) l) o)
