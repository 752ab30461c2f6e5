-- The first position at which a property holds. Assumes nothing.
use mathlib.Core.Path.{◌≡◌, subst}
use mathlib.Core.Logic.{◌⊎◌, inl, inr}
use Prim.Native.Nat.{ℕ, zero, suc, ◌<◌}
use native.Mathlib.Omega.{arith}
use native.Mathlib.Decide.{dec_lt}

-- of the positions below n the first
pub record First (P : ℕ → Type 0) (n : ℕ) : Type 0 where
  pub at : ℕ
  pub below : at < n
  pub here : P at
  pub not-before : (j : ℕ) → j < at → P j → ⊥

module _ (P : ℕ → Type 0) (dec : (n : ℕ) → Dec (P n)) where
  -- there is one, or at none it holds
  pub first_below : (n : ℕ) → First P n ⊎ ((j : ℕ) → j < n → P j → ⊥)
  first_below zero = inr (λ j l p. absurd (omega arith))
  first_below (suc n) = go (first_below n) (dec n)
    where
      go : First P n ⊎ ((j : ℕ) → j < n → P j → ⊥) → Dec (P n) → First P (suc n) ⊎ ((j : ℕ) → j < suc n → P j → ⊥)
      go (inl f) d = inl (record { at = f.at; below = omega (arith, f.below); here = f.here; not-before = f.not-before })
      go (inr f) (yes p) = inl (record { at = n; below = omega arith; here = p; not-before = f })
      go (inr f) (no p) = inr (λ j l q. split j l q (dec_lt j n))
        where
          split : (j : ℕ) → j < suc n → P j → Dec (j < n) → ⊥
          split j l q (yes m) = f j m q
          split j l q (no m) = let e : j ≡ n = omega arith in p (subst P e q)
