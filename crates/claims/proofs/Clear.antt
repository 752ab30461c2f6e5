-- A claim that sends no probe before a time, and how conflicts and probes heard keep it so. It is what keeps two probes 250 ms apart. Assumes nothing.
use Prim.Native.Nat.{ℕ, ◌≤◌}
use native.Mathlib.Omega.{arith}
use Rattle.claims.specs.Claims.{after_conflict, after_probe}
use Rattle.claims.specs.declared.ClaimState.{ClaimState}
use Rattle.claims.specs.declared.ClaimState.TheVariants.{Waiting, Probing1, Probing2, Probing3, Deferred, Announced, Held, Lost}

-- No step of a claim that is not held is due before `from`; and where it is held, `from` has come.
abbrev pub Clear : ℕ → ℕ → ClaimState → Type 0
Clear from now (Waiting due) = from ≤ due
Clear from now (Probing1 due) = from ≤ due
Clear from now (Probing2 due) = from ≤ due
Clear from now (Probing3 due) = from ≤ due
Clear from now (Deferred due) = from ≤ due
Clear from now (Announced due) = from ≤ now
Clear from now Held = from ≤ now
Clear from now Lost = Unit {0}

module _ (from now : ℕ) where
  pub clear_later : (last : ℕ) → last ≤ now → (c : ClaimState) → Clear from last c → Clear from now c
  clear_later last l (Waiting due) h = h
  clear_later last l (Probing1 due) h = h
  clear_later last l (Probing2 due) h = h
  clear_later last l (Probing3 due) h = h
  clear_later last l (Deferred due) h = h
  clear_later last l (Announced due) h = omega arith
  clear_later last l Held h = omega arith
  clear_later last l Lost h = tt

  pub clear_conflict : (c : ClaimState) (due : ℕ) → now ≤ due → Clear from now c → Clear from now (after_conflict c due)
  clear_conflict (Waiting was) due l h = tt
  clear_conflict (Probing1 was) due l h = tt
  clear_conflict (Probing2 was) due l h = tt
  clear_conflict (Probing3 was) due l h = tt
  clear_conflict (Deferred was) due l h = tt
  clear_conflict (Announced was) due l h = omega arith
  clear_conflict Held due l h = omega arith
  clear_conflict Lost due l h = tt

  pub clear_probe : (c : ClaimState) (due : ℕ) → from ≤ due → Clear from now c → Clear from now (after_probe c due)
  clear_probe (Waiting was) due l h = h
  clear_probe (Probing1 was) due l h = l
  clear_probe (Probing2 was) due l h = l
  clear_probe (Probing3 was) due l h = l
  clear_probe (Deferred was) due l h = h
  clear_probe (Announced was) due l h = h
  clear_probe Held due l h = h
  clear_probe Lost due l h = tt
