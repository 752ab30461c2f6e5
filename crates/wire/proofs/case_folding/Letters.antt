-- The library's small letters are those of the definition. Assumes nothing.
use Rattle.std.specs.Prelude.{ℕ, ◌≡◌, ◌+◌, ◌<◌, ◌≤◌, Bool, true, false, cond, ◌&&◌, leb}
use Rattle.std.specs.Char.{to_ascii_lowercase}
use mathlib.Core.Path.{refl}
use native.Mathlib.Omega.{arith}
use borrow.Author.Tests.{lt-ltb, le-ltb, leb-true, leb-false}
use Rattle.wire.specs.case_folding.Fold.{lower}

pub lowered_as : (b : ℕ) → to_ascii_lowercase b ≡ lower b
lowered_as b = go (leb 65 b) refl (leb b 90) refl
  where
    go : (x : Bool) → leb 65 b ≡ x → (y : Bool) → leb b 90 ≡ y → to_ascii_lowercase b ≡ cond (x && y) (b + 32) b
    go false e y f = let l : b < 65 = leb-false _ _ e in simp (lt-ltb _ _ l)
    go true e true f =
        let l : 65 ≤ b = leb-true _ _ e in
        let m : b ≤ 90 = leb-true _ _ f in
        let n : b < 91 = omega arith in simp (le-ltb _ _ l, lt-ltb _ _ n)
    go true e false f =
        let l : 65 ≤ b = leb-true _ _ e in
        let m : 91 ≤ b = leb-false _ _ f in simp (le-ltb _ _ l, le-ltb _ _ m)
