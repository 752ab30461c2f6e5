-- Past the end of a packet there are zeros. Assumes nothing.
use mathlib.Core.Path.{◌≡◌}
use mathlib.Core.List.{List}
use Prim.Native.Nat.{ℕ, ◌+◌, ◌*◌, ◌≤◌}
use native.Mathlib.Omega.{arith}
use lib.ListN.{length, get_or-eq_default}
use Rattle.wire.specs.octets.Octets.{byte_at, word16, word32}

module _ (p : List ℕ) (at : ℕ) where
  pub byte_past : length p ≤ at → byte_at p at ≡ 0
  byte_past h = get_or-eq_default p 0 h

  pub word16-past : length p ≤ at → 0 ≡ word16 p at
  word16-past h =
      let h₁ : length p ≤ at + 1 = omega arith in
      omega (arith, get_or-eq_default p 0 h, get_or-eq_default p 0 h₁)

  pub word32-past : length p ≤ at → 0 ≡ word32 p at
  word32-past h =
      let h₁ : length p ≤ at + 1 = omega arith in
      let h₂ : length p ≤ at + 2 = omega arith in
      let h₃ : length p ≤ at + 2 + 1 = omega arith in
      omega (arith, get_or-eq_default p 0 h, get_or-eq_default p 0 h₁, get_or-eq_default p 0 h₂, get_or-eq_default p 0 h₃)

  pub word32-last : (b : ℕ) → b ≡ byte_at p at → length p ≤ at + 1 → b * 16777216 ≡ word32 p at
  word32-last b e h =
      let h₂ : length p ≤ at + 2 = omega arith in
      let h₃ : length p ≤ at + 2 + 1 = omega arith in
      omega (arith, get_or-eq_default p 0 h, get_or-eq_default p 0 h₂, get_or-eq_default p 0 h₃)
