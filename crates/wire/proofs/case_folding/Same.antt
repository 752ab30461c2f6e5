-- `same_name` a byte at a time. Assumes nothing.
use mathlib.Core.Path.{◌≡◌, refl, sym, ap, ◌∙◌}
use mathlib.Core.List.{List, [], ◌∷◌}
use mathlib.Core.Bool.{true, false, ◌&&◌}
use Prim.Native.Nat.{ℕ, zero, suc, ◌+◌, ◌<◌, ◌≤◌}
use native.Mathlib.Numerals.{add-one}
use native.Mathlib.Omega.{arith}
use lib.ListN.{length, get_or, take, drop, drop_of_length-le}
use lib.Seq.{drop-cons}
use lib.Dec.{eqb}
use borrow.Author.Tests.{eq-eqb}
use Rattle.wire.specs.case_folding.Fold.{lower, same_name}

pub same_step : (a b : List ℕ) (i : ℕ) → i < length a → i < length b
    → same_name (drop i a) (drop i b) ≡ (eqb (lower (get_or a i 0)) (lower (get_or b i 0)) && same_name (drop (i + 1) a) (drop (i + 1) b))
unfolding same_name
same_step a b i h k = rw (add-one, drop-cons a i 0 h, drop-cons b i 0 k)

pub same_end : (a b : List ℕ) (i : ℕ) → length a ≤ i → length b ≤ i → same_name (drop i a) (drop i b) ≡ true
unfolding same_name
same_end a b i h k = rw (drop_of_length-le a h, drop_of_length-le b k)

-- names whose first bytes are the same are equal where the rest is
pub same_front : (r : ℕ) (a b : List ℕ) → take r a ≡ take r b → same_name a b ≡ same_name (drop r a) (drop r b)
unfolding same_name
same_front zero a b e = refl
same_front (suc r) [] [] e = refl
same_front (suc r) [] (y ∷ ys) e = let z : ◌≡◌ {A = ℕ} 0 1 = cc in absurd (omega arith)
same_front (suc r) (x ∷ xs) [] e = let z : ◌≡◌ {A = ℕ} 0 1 = cc in absurd (omega arith)
same_front (suc r) (x ∷ xs) (y ∷ ys) e =
    let h : x ≡ y = cc in
    let t : take r xs ≡ take r ys = cc in
    simp (eq-eqb (lower x) (lower y) (ap lower h)) (same_front r xs ys t)

-- a turn of the loop, with what `same_letter` gave of the two bytes
module _ (a b : List ℕ) (i : ℕ) (h : i < length a) (k : i < length b) (inv : same_name a b ≡ same_name (drop i a) (drop i b)) where
  turn : same_name a b ≡ (eqb (lower (get_or a i 0)) (lower (get_or b i 0)) && same_name (drop (i + 1) a) (drop (i + 1) b))
  turn = inv ∙ same_step a b i h k

  pub turn_differ : eqb (lower (get_or a i 0)) (lower (get_or b i 0)) ≡ false → false ≡ same_name a b
  turn_differ e = sym (turn ∙ simp e)

  pub turn_agree : eqb (lower (get_or a i 0)) (lower (get_or b i 0)) ≡ true → same_name a b ≡ same_name (drop (i + 1) a) (drop (i + 1) b)
  turn_agree e = turn ∙ simp e
