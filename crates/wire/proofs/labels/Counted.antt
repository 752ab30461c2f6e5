-- The offsets at which labels start, label by label, and how many there are. Assumes nothing.
use mathlib.Core.Path.{◌≡◌, refl, sym, ap, ap₂, ◌∙◌}
use mathlib.Core.List.{List, [], ◌∷◌, ◌++◌}
use Prim.Native.Nat.{ℕ, zero, suc, ◌+◌, ◌<◌, ◌≤◌}
use native.Mathlib.Numerals.{add-one}
use native.Mathlib.Omega.{arith}
use lib.ListN.{length, get_or, drop, drop_of_length-le}
use lib.Seq.{drop-cons, drop-drop}
use Rattle.wire.specs.labels.Counted.{starts, labels_in}

-- the bytes of a label are passed over, also where it runs past the end
past : (a k : ℕ) (bs : List ℕ) → starts a k bs ≡ starts (a + k) 0 (drop k bs)
unfolding starts
past a zero bs = let e : a ≡ a + 0 = omega arith in ap (λ (n : ℕ). starts n 0 bs) e
past a (suc k) [] = refl
past a (suc k) (b ∷ bs) = let e : suc a + k ≡ a + suc k = omega arith in past (suc a) k bs ∙ ap (λ (n : ℕ). starts n 0 (drop k bs)) e

module _ (s : List ℕ) (i a : ℕ) where
  pub starts-end : length s ≤ i → starts a 0 (drop i s) ≡ []
  unfolding starts
  starts-end h = ap (starts a 0) (drop_of_length-le s h)

  module _ (h : i < length s) where
    front : drop i s ≡ get_or s i 0 ∷ drop (i + 1) s
    front = drop-cons s i 0 h ∙ ap (λ (k : ℕ). get_or s i 0 ∷ drop k s) (sym (add-one i))

    pub starts-root : get_or s i 0 ≡ 0 → starts a 0 (drop i s) ≡ []
    unfolding starts
    starts-root z = ap (starts a 0) (front ∙ ap (λ (n : ℕ). n ∷ drop (i + 1) s) z)

    pub starts-label : (get_or s i 0 ≡ 0 → ⊥) → starts a 0 (drop i s) ≡ a ∷ starts (a + 1 + get_or s i 0) 0 (drop (i + 1 + get_or s i 0) s)
    unfolding starts
    starts-label nz = ap (starts a 0) front ∙ go (get_or s i 0) nz
      where
        go : (n : ℕ) → (n ≡ 0 → ⊥) → starts a 0 (n ∷ drop (i + 1) s) ≡ a ∷ starts (a + 1 + n) 0 (drop (i + 1 + n) s)
        go zero nz = absurd (nz refl)
        go (suc n) nz =
            let e : suc a + suc n ≡ a + 1 + suc n = omega arith in
            ap (λ (l : List ℕ). a ∷ l) (past (suc a) (suc n) (drop (i + 1) s) ∙ ap₂ (λ (m : ℕ) (l : List ℕ). starts m 0 l) e (drop-drop (suc n) (i + 1) s))

-- counted
module _ (s : List ℕ) (c i : ℕ) (inv : labels_in s ≡ c + length (starts i 0 (drop i s))) where
  pub count_end : length s ≤ i → c ≡ labels_in s
  count_end h = omega (arith, ap length (starts-end s i i h))

  pub count_root : i < length s → get_or s i 0 ≡ 0 → c ≡ labels_in s
  count_root h z = omega (arith, ap length (starts-root s i i h z))

  pub count_on : i < length s → (get_or s i 0 ≡ 0 → ⊥) → labels_in s ≡ c + 1 + length (starts (i + 1 + get_or s i 0) 0 (drop (i + 1 + get_or s i 0) s))
  count_on h nz = omega (arith, ap length (starts-label s i i h nz))

-- as many labels start wherever the name stands
pub count_anywhere : (a b k : ℕ) (bs : List ℕ) → length (starts a k bs) ≡ length (starts b k bs)
unfolding starts
count_anywhere a b k [] = refl
count_anywhere a b (suc k) (x ∷ bs) = count_anywhere (suc a) (suc b) k bs
count_anywhere a b zero (zero ∷ bs) = refl
count_anywhere a b zero (suc n ∷ bs) = ap suc (count_anywhere (suc a) (suc b) (suc n) bs)

skip : (a : ℕ) (xs ys : List ℕ) → length (starts a (length xs) (xs ++ ys)) ≡ length (starts 0 0 ys)
unfolding starts
skip a [] ys = count_anywhere a 0 0 ys
skip a (x ∷ xs) ys = skip (suc a) xs ys

-- a label in front of a name
pub label-before : (n : ℕ) (xs ys : List ℕ) → (n ≡ 0 → ⊥) → length xs ≡ n → labels_in (n ∷ (xs ++ ys)) ≡ 1 + labels_in ys
unfolding starts
label-before zero xs ys z l = absurd (z refl)
label-before (suc n) xs ys z l = let e : length (starts 1 (suc n) (xs ++ ys)) ≡ labels_in ys = ap (λ (k : ℕ). length (starts 1 k (xs ++ ys))) (sym l) ∙ skip 1 xs ys in omega (arith, e)
