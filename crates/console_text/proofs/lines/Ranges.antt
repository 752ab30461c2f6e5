-- Tests that a byte lies in a range. Assumes nothing.
use mathlib.Core.Path.{◌≡◌}
use mathlib.Core.Bool.{true, false, ◌&&◌}
use Prim.Native.Nat.{ℕ, ◌≤◌, ◌<◌}
use native.Mathlib.Omega.{arith}
use lib.Dec.{leb}
use borrow.Author.Tests.{le-leb, lt-leb}

module _ (low high b : ℕ) where
  pub inside : low ≤ b → b ≤ high → (leb low b && leb b high) ≡ true
  inside h k = simp (le-leb low b h, le-leb b high k)

  pub below : b < low → (leb low b && leb b high) ≡ false
  below h = simp (lt-leb low b h)

  pub above : low ≤ high → high < b → (leb low b && leb b high) ≡ false
  above o h = let k : low ≤ b = omega arith in simp (le-leb low b k, lt-leb b high h)
