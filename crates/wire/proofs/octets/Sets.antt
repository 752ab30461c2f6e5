-- Runs of stores into a list, and lists of one value. Assumes nothing.
use mathlib.Core.Path.{◌≡◌, sym, ap, ◌∙◌}
use mathlib.Core.List.{List, [], ◌∷◌, ◌++◌}
use Prim.Native.Nat.{ℕ, zero, suc, ◌+◌, ◌-◌, ◌<◌, ◌≤◌}
use native.Mathlib.Nat.{zero-add, add-zero, add-suc, suc-add, sub-zero, suc-sub-suc, zero-sub, le_of_lt}
use native.Mathlib.Numerals.{add-one}
use native.Mathlib.Omega.{arith}
use lib.ListN.{length, take, drop, set, get_or, replicate, length-replicate}
use lib.Seq.{sets, sets-eq, take-suc, length-take-le}

-- one run of stores after the other is the run of both
pub sets-append : (l : List ℕ) (i : ℕ) (xs ys : List ℕ) → sets (sets l i xs) (i + length xs) ys ≡ sets l i (xs ++ ys)
sets-append l i [] ys = ap (λ (k : ℕ). sets l k ys) (add-zero i)
sets-append l i (x ∷ xs) ys =
    ap (λ (k : ℕ). sets (sets (set l i x) (suc i) xs) k ys) (add-suc i (length xs) ∙ sym (suc-add i (length xs)))
    ∙ sets-append (set l i x) (suc i) xs ys

-- a turn of a loop that copies s: the store of its element j
pub sets_more : (l : List ℕ) (i : ℕ) (s : List ℕ) (j : ℕ) → j < length s
    → set (sets l i (take j s)) (i + j) (get_or s j 0) ≡ sets l i (take (j + 1) s)
sets_more l i s j h =
    ap (λ (k : ℕ). set (sets l i (take j s)) (i + k) (get_or s j 0)) (sym (length-take-le j s (le_of_lt h)))
    ∙ sets-append l i (take j s) (get_or s j 0 ∷ [])
    ∙ ap (sets l i) (sym (take-suc s j 0 h))
    ∙ ap (λ (k : ℕ). sets l i (take k s)) (sym (add-one j))

-- zeros past a place are zeros
pub drop-replicate : (n m a : ℕ) → drop n (replicate m a) ≡ replicate (m - n) a
drop-replicate zero m a = ap (λ (k : ℕ). replicate k a) (sym (sub-zero m))
drop-replicate (suc n) zero a = ap (λ (k : ℕ). replicate k a) (sym (zero-sub (suc n)))
drop-replicate (suc n) (suc m) a = drop-replicate n m a ∙ ap (λ (k : ℕ). replicate k a) (sym (suc-sub-suc m n))

-- bytes written into zeros from the front
pub filled : (n : ℕ) (bs : List ℕ) → length bs ≤ n → sets (replicate n 0) 0 bs ≡ bs ++ replicate (n - length bs) 0
filled n bs h =
    sets-eq bs (replicate n 0) 0 (omega (arith, length-replicate {A = ℕ} n 0))
    ∙ ap (λ (k : ℕ). bs ++ drop k (replicate n 0)) (zero-add (length bs)) ∙ ap (λ (l : List ℕ). bs ++ l) (drop-replicate (length bs) n 0)
