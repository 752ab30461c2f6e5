-- Less than a gap ago is before a time plus the gap; a time ahead is 0 ms ago. Assumes nothing.
use Rattle.std.specs.Prelude.{Option, Some, None}
use Prim.Native.Nat.{ℕ, ◌+◌, ◌-◌, ◌<◌, ◌≤◌}
use mathlib.Core.Path.{◌≡◌, refl, ◌∙◌}
use mathlib.Core.Bool.{Bool, true, false}
use native.Mathlib.Omega.{arith}
use lib.Dec.{ltb}
use borrow.Author.Tests.{lt-ltb, le-ltb, ltb-true, ltb-false}
use Rattle.claims.specs.Time.{recently}
use Rattle.claims.specs.changes.Changes.{within, update_gap, too_soon}
use Rattle.claims.specs.declared.Progress.{Progress}

pub recent_soon : (gap : ℕ) (w : Option ℕ) (now : ℕ) → 0 < gap → recently w now gap ≡ within gap w now
recent_soon gap None now g = refl
recent_soon gap (Some time) now g = go (ltb now (time + gap)) refl
  where
    go : (b : Bool) → ltb now (time + gap) ≡ b → ltb (now - time) gap ≡ b
    go true e = let l : now < time + gap = ltb-true now (time + gap) e in lt-ltb (now - time) gap (omega arith)
    go false e = let l : time + gap ≤ now = ltb-false now (time + gap) e in le-ltb (now - time) gap (omega arith)

-- the test of an update
pub soon-refused : (progress : Progress) (now : ℕ) (r : Bool) → r ≡ recently progress.updated now update_gap → r ≡ too_soon progress now
soon-refused progress now r e = e ∙ recent_soon update_gap progress.updated now (omega arith)
