-- Arrays as lists. Assumes nothing.
use mathlib.Core.Path.{◌≡◌, refl, sym, ap, ◌∙◌}
use mathlib.Core.List.{List, [], ◌∷◌, map}
use Prim.Native.Nat.{ℕ, suc}
use lib.ListN.{length}

-- the length of an array, from what its type says of it
pub sized : (l : List ℕ) (n : ℕ) → length (map (λ (v : ℕ). v) l) ≡ n → length l ≡ n
sized l n h = sym (same l) ∙ h
  where
    same : (l : List ℕ) → length (map (λ (v : ℕ). v) l) ≡ length l
    same [] = refl
    same (x ∷ xs) = ap suc (same xs)
