-- A value for each own record, filled into an array by index, one after the other. Assumes nothing.
use Prim.Native.Nat.{ℕ, zero, suc, ◌+◌, ◌≤◌}
use mathlib.Core.Path.{◌≡◌, refl, sym, ap, ap₂, ◌∙◌}
use mathlib.Core.List.{List, map}
use mathlib.Core.Bool.{Bool, false}
use native.Mathlib.Numerals.{add-one}
use native.Mathlib.Omega.{arith}
use lib.ListN.{get_or, set, replicate}
use Rattle.claims.specs.records.Own.{all, records, index_of, record_at, each}
use Rattle.claims.specs.declared.records.Own.{Own}
use Rattle.claims.specs.declared.records.Set.{Set}

-- an array of `none`, filled for the first `n` records
unfoldable pub filled : {A : Type 0} → A → (Own → A) → ℕ → List A
filled none f zero = replicate records none
filled none f (suc n) = set (filled none f n) n (f (record_at n))

pub none_filled : {A : Type 0} (none : A) (f : Own → A) → replicate records none ≡ filled none f 0
unfolding filled
none_filled none f = refl

pub next_filled : {A : Type 0} (none : A) (f : Own → A) (i : ℕ) (l : List A) (v : A) → l ≡ filled none f i → v ≡ f (record_at i) → set l i v ≡ filled none f (i + 1)
unfolding filled
next_filled none f i l v e h = ap₂ (λ (x : List _) (y : _). set x i y) e h ∙ ap (filled none f) (sym (add-one i))

pub all-filled : {A : Type 0} (none : A) (f : Own → A) (i : ℕ) (l : List A) → records ≤ i → i ≤ records → l ≡ filled none f i → l ≡ map f all
unfolding filled record_at
all-filled none f i l h k e = let z : i ≡ records = omega arith in e ∙ ap (filled none f) z

-- the set of the flags
pub set-filled : (f : Own → Bool) (i : ℕ) (flags : List Bool) (r : Set) → r ≡ each (λ o. get_or flags (index_of o) false) → records ≤ i → i ≤ records → flags ≡ filled false f i → r ≡ each f
set-filled f i flags r e h k w = e ∙ ap (λ (l : List Bool). each (λ o. get_or l (index_of o) false)) (all-filled false f i flags h k w)
