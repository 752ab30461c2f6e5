-- Equality of names is an equivalence, and equal names have equal lengths. Assumes nothing.
use mathlib.Core.Path.{◌≡◌, refl, sym, ap, ◌∙◌}
use mathlib.Core.List.{List, [], ◌∷◌}
use mathlib.Core.Bool.{true, false, and-false}
use Prim.Native.Nat.{ℕ, suc}
use native.Mathlib.Omega.{arith}
use lib.ListN.{length}
use lib.Dec.{eqb}
use borrow.Author.Tests.{eq-eqb, eqb-true}
use mathlib.Mathlib.Data.Bool.Basic.{and-eq-true-eq-eq-true-and-eq-true as both}
use Rattle.wire.specs.case_folding.Fold.{lower, same_name}

-- names of different lengths differ
pub same_lengths : (a b : List ℕ) → (length a ≡ length b → ⊥) → same_name a b ≡ false
unfolding same_name
same_lengths [] [] h = absurd (h refl)
same_lengths [] (y ∷ ys) h = refl
same_lengths (x ∷ xs) [] h = refl
same_lengths (x ∷ xs) (y ∷ ys) h = rw (same_lengths xs ys (λ e. h (ap suc e))) (and-false (eqb (lower x) (lower y)))

-- what equal names say of their first bytes and of the rest
pub heads : (x y : ℕ) (xs ys : List ℕ) → same_name (x ∷ xs) (y ∷ ys) ≡ true → (lower x ≡ lower y) × (same_name xs ys ≡ true)
unfolding same_name
heads x y xs ys e =
    let h = (both (eqb (lower x) (lower y)) (same_name xs ys)).0 e in
    (eqb-true (lower x) (lower y) h.0, h.1)

joined : (x y : ℕ) (xs ys : List ℕ) → lower x ≡ lower y → same_name xs ys ≡ true → same_name (x ∷ xs) (y ∷ ys) ≡ true
unfolding same_name
joined x y xs ys e h = simp (eq-eqb (lower x) (lower y) e, h)

pub same_refl : (a : List ℕ) → same_name a a ≡ true
unfolding same_name
same_refl [] = refl
same_refl (x ∷ xs) = joined x x xs xs refl (same_refl xs)

pub same_sym : (a b : List ℕ) → same_name a b ≡ true → same_name b a ≡ true
unfolding same_name
same_sym [] [] e = refl
same_sym [] (y ∷ ys) e = let z : ◌≡◌ {A = ℕ} 0 1 = cc in absurd (omega arith)
same_sym (x ∷ xs) [] e = let z : ◌≡◌ {A = ℕ} 0 1 = cc in absurd (omega arith)
same_sym (x ∷ xs) (y ∷ ys) e = let h = heads x y xs ys e in joined y x ys xs (sym h.0) (same_sym xs ys h.1)

pub same_trans : (a b c : List ℕ) → same_name a b ≡ true → same_name b c ≡ true → same_name a c ≡ true
unfolding same_name
same_trans [] [] c e f = f
same_trans [] (y ∷ ys) c e f = let z : ◌≡◌ {A = ℕ} 0 1 = cc in absurd (omega arith)
same_trans (x ∷ xs) [] c e f = let z : ◌≡◌ {A = ℕ} 0 1 = cc in absurd (omega arith)
same_trans (x ∷ xs) (y ∷ ys) [] e f = let z : ◌≡◌ {A = ℕ} 0 1 = cc in absurd (omega arith)
same_trans (x ∷ xs) (y ∷ ys) (w ∷ ws) e f =
    let h = heads x y xs ys e in
    let k = heads y w ys ws f in
    joined x w xs ws (h.0 ∙ k.0) (same_trans xs ys ws h.1 k.1)

pub same_length : (a b : List ℕ) → same_name a b ≡ true → length a ≡ length b
unfolding same_name
same_length [] [] e = refl
same_length [] (y ∷ ys) e = let z : ◌≡◌ {A = ℕ} 0 1 = cc in absurd (omega arith)
same_length (x ∷ xs) [] e = let z : ◌≡◌ {A = ℕ} 0 1 = cc in absurd (omega arith)
same_length (x ∷ xs) (y ∷ ys) e = ap suc (same_length xs ys (heads x y xs ys e).1)
