-- `sameBytes` a byte at a time, and that it is equality. Assumes nothing.
use mathlib.Core.Path.{◌≡◌, refl, sym, ap, ap₂, ◌∙◌}
use mathlib.Core.List.{List, [], ◌∷◌}
use mathlib.Core.Bool.{Bool, true, false, ◌&&◌, and-false}
use Prim.Native.Nat.{ℕ, zero, suc, ◌+◌, ◌<◌, ◌≤◌}
use native.Mathlib.Numerals.{add-one}
use native.Mathlib.Omega.{arith}
use lib.ListN.{length, get_or, take, drop, drop_of_length-le}
use lib.Seq.{drop-cons}
use lib.Dec.{eqb}
use borrow.Author.Tests.{eq-eqb, ne_eqb, eqb-true}
use mathlib.Mathlib.Data.Bool.Basic.{and-eq-true-eq-eq-true-and-eq-true as both}
use Rattle.wire.specs.expansion.Equal.{same_bytes}

pub same_refl : (a : List ℕ) → same_bytes a a ≡ true
unfolding same_bytes
same_refl [] = refl
same_refl (x ∷ xs) = simp (eq-eqb x x refl, same_refl xs)

-- the same bytes are equal lists
pub same_equal : (a b : List ℕ) → same_bytes a b ≡ true → a ≡ b
unfolding same_bytes
same_equal [] [] h = refl
same_equal [] (y ∷ ys) h = let z : ◌≡◌ {A = ℕ} 0 1 = cc in absurd (omega arith)
same_equal (x ∷ xs) [] h = let z : ◌≡◌ {A = ℕ} 0 1 = cc in absurd (omega arith)
same_equal (x ∷ xs) (y ∷ ys) h =
    let k = (both (eqb x y) (same_bytes xs ys)).0 h in
    ap₂ (λ (b : ℕ) (l : List ℕ). b ∷ l) (eqb-true x y k.0) (same_equal xs ys k.1)

pub not_equal : (a b : List ℕ) → (a ≡ b → ⊥) → false ≡ same_bytes a b
not_equal a b ne = go (same_bytes a b) refl
  where
    go : (t : Bool) → same_bytes a b ≡ t → false ≡ same_bytes a b
    go true e = absurd (ne (same_equal a b e))
    go false e = sym e

pub same_lengths : (a b : List ℕ) → (length a ≡ length b → ⊥) → same_bytes a b ≡ false
unfolding same_bytes
same_lengths [] [] h = absurd (h refl)
same_lengths [] (y ∷ ys) h = refl
same_lengths (x ∷ xs) [] h = refl
same_lengths (x ∷ xs) (y ∷ ys) h = rw (same_lengths xs ys (λ e. h (ap suc e))) (and-false (eqb x y))

-- lists whose first bytes are the same are the same where the rest is
pub same_front : (r : ℕ) (a b : List ℕ) → take r a ≡ take r b → same_bytes a b ≡ same_bytes (drop r a) (drop r b)
unfolding same_bytes
same_front zero a b e = refl
same_front (suc r) [] [] e = refl
same_front (suc r) [] (y ∷ ys) e = let z : ◌≡◌ {A = ℕ} 0 1 = cc in absurd (omega arith)
same_front (suc r) (x ∷ xs) [] e = let z : ◌≡◌ {A = ℕ} 0 1 = cc in absurd (omega arith)
same_front (suc r) (x ∷ xs) (y ∷ ys) e =
    let h : x ≡ y = cc in
    let t : take r xs ≡ take r ys = cc in
    simp (eq-eqb x y h) (same_front r xs ys t)

-- a turn of the loop
module _ (a b : List ℕ) (i : ℕ) (h : i < length a) (k : i < length b) (inv : same_bytes a b ≡ same_bytes (drop i a) (drop i b)) where
  turn : same_bytes a b ≡ (eqb (get_or a i 0) (get_or b i 0) && same_bytes (drop (i + 1) a) (drop (i + 1) b))
  unfolding same_bytes
  turn = inv ∙ rw (add-one, drop-cons a i 0 h, drop-cons b i 0 k)

  pub turn_differ : (get_or a i 0 ≡ get_or b i 0 → ⊥) → false ≡ same_bytes a b
  turn_differ ne = sym (turn ∙ simp (ne_eqb _ _ ne))

  pub turn_agree : get_or a i 0 ≡ get_or b i 0 → same_bytes a b ≡ same_bytes (drop (i + 1) a) (drop (i + 1) b)
  turn_agree e = turn ∙ simp (eq-eqb _ _ e)

pub same_end : (a b : List ℕ) (i : ℕ) → length a ≤ i → length b ≤ i → same_bytes a b ≡ same_bytes (drop i a) (drop i b) → true ≡ same_bytes a b
unfolding same_bytes
same_end a b i h k inv = sym (inv ∙ rw (drop_of_length-le a h, drop_of_length-le b k))
