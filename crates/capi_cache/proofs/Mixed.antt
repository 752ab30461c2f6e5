-- A list whose first i entries are another's, as a copy leaves it that has passed the first i. Assumes nothing.
--     set-mixed, all-mixed     a store of the next entry goes on to i + 1; and once all are passed it is the other list
use Prim.Native.Nat.{ℕ, zero, suc, ◌<◌}
use native.Mathlib.Nat.{le_of_suc-le-suc, not-suc-le-zero}
use native.Mathlib.Omega.{arith}
use mathlib.Core.Path.{◌≡◌, refl, sym, ap}
use mathlib.Core.List.{List, [], ◌∷◌}
use lib.ListN.{length, get_or, set}
use Rattle.cache.specs.declared.entries.Entry.{Entry}
use Rattle.cache.specs.entries.Entries.{blank}

-- the first i entries of xs, and then those of ls
abbrev pub mixed : ℕ → List Entry → List Entry → List Entry
mixed zero xs ls = ls
mixed (suc i) xs [] = []
mixed (suc i) [] (l ∷ ls) = l ∷ ls
mixed (suc i) (x ∷ xs) (l ∷ ls) = x ∷ mixed i xs ls

pub length-mixed : (i : ℕ) (xs ls : List Entry) → length (mixed i xs ls) ≡ length ls
length-mixed zero xs ls = refl
length-mixed (suc i) xs [] = refl
length-mixed (suc i) [] (l ∷ ls) = refl
length-mixed (suc i) (x ∷ xs) (l ∷ ls) = ap suc (length-mixed i xs ls)

pub set-mixed : (i : ℕ) (xs ls : List Entry) → i < length xs → length xs ≡ length ls → set (mixed i xs ls) i (get_or xs i blank) ≡ mixed (suc i) xs ls
set-mixed i [] ls l e = absurd (not-suc-le-zero l)
set-mixed zero (x ∷ xs) [] l e = refl
set-mixed zero (x ∷ xs) (y ∷ ls) l e = refl
set-mixed (suc i) (x ∷ xs) [] l e = refl
set-mixed (suc i) (x ∷ xs) (y ∷ ls) l e = ap (λ (zs : List Entry). x ∷ zs) (set-mixed i xs ls (le_of_suc-le-suc l) (cc e))

zero-not_suc : (n : ℕ) → zero ≡ suc n → ⊥
zero-not_suc n e = omega (arith, e)

pub all-mixed : (xs ls : List Entry) → length xs ≡ length ls → mixed (length xs) xs ls ≡ xs
all-mixed [] [] e = refl
all-mixed [] (y ∷ ls) e = absurd (zero-not_suc (length ls) e)
all-mixed (x ∷ xs) [] e = absurd (zero-not_suc (length xs) (sym e))
all-mixed (x ∷ xs) (y ∷ ls) e = ap (λ (zs : List Entry). x ∷ zs) (all-mixed xs ls (cc e))
