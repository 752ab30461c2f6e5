-- Runs of stores: what stands before and behind them, and one made before another. Assumes nothing.
use mathlib.Core.Path.{◌≡◌, refl, sym, ap, ◌∙◌}
use mathlib.Core.List.{List, [], ◌∷◌, ◌++◌}
use Prim.Native.Nat.{ℕ, suc, ◌+◌, ◌≤◌}
use native.Mathlib.Omega.{arith}
use lib.ListN.{length, take, drop, set, length-append}
use lib.Seq.{sets, sets-eq, set_comm, take_at, length-take-le, take-set-le}

-- what stands before a run of stores stays
pub take-sets : (n : ℕ) (l : List ℕ) (i : ℕ) (vs : List ℕ) → n ≤ i → take n (sets l i vs) ≡ take n l
take-sets n l i [] h = refl
take-sets n l i (v ∷ vs) h = take-sets n (set l i v) (suc i) vs (omega arith) ∙ take-set-le n l i v h

-- a store behind a run of stores, made before it
set-sets : (l : List ℕ) (i : ℕ) (xs : List ℕ) (j v : ℕ) → i + length xs ≤ j → sets (set l j v) i xs ≡ set (sets l i xs) j v
set-sets l i [] j v h = refl
set-sets l i (x ∷ xs) j v h =
    ap (λ (m : List ℕ). sets m (suc i) xs) (set_comm l j i v x (λ e. absurd (omega arith))) ∙ set-sets (set l i x) (suc i) xs j v (omega arith)

-- a run of stores behind another, made before it
pub sets-swap : (l : List ℕ) (i : ℕ) (xs : List ℕ) (j : ℕ) (ys : List ℕ) → i + length xs ≤ j → sets (sets l j ys) i xs ≡ sets (sets l i xs) j ys
sets-swap l i xs j [] h = refl
sets-swap l i xs j (y ∷ ys) h = sets-swap (set l j y) i xs (suc j) ys (omega arith) ∙ ap (λ (m : List ℕ). sets m (suc j) ys) (set-sets l i xs j y h)

-- what stands before the end of a run of stores
pub take-run : (l : List ℕ) (i : ℕ) (vs : List ℕ) → i + length vs ≤ length l → take (i + length vs) (sets l i vs) ≡ take i l ++ vs
take-run l i vs h =
    let front : length (take i l ++ vs) ≡ i + length vs = length-append (take i l) vs ∙ ap (λ (k : ℕ). k + length vs) (length-take-le i l (omega arith)) in
    ap (take (i + length vs)) (sets-eq vs l i h) ∙ take_at (take i l ++ vs) (drop (i + length vs) l) (i + length vs) front

-- a run of stores and the rest
pub run-rest : (l : List ℕ) (i : ℕ) (vs : List ℕ) → i + length vs ≤ length l → sets l i vs ≡ (take i l ++ vs) ++ drop (length (take i l ++ vs)) l
run-rest l i vs h =
    let front : i + length vs ≡ length (take i l ++ vs) = sym
    (length-append (take i l) vs ∙ ap (λ (k : ℕ). k + length vs) (length-take-le i l (omega arith))) in
    sets-eq vs l i h ∙ ap (λ (k : ℕ). (take i l ++ vs) ++ drop k l) front
