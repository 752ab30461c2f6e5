-- Times of an accepted call do not run out of 64 bits: what is due `ms` after it is due at exactly `now + ms`. And how long ago a multicast was.
-- Assumes nothing.
use Rattle.std.specs.Prelude.{Option, Some, None}
use Prim.Native.Nat.{ℕ, ◌+◌, ◌-◌, ◌≤◌, ◌<◌}
use mathlib.Core.Path.{◌≡◌, refl}
use mathlib.Core.Bool.{true, false}
use native.Mathlib.Omega.{arith}
use borrow.Author.Tests.{le-leb, ltb-true}
use Rattle.claims.specs.Time.{last_time, last_due, after_ms, recently}

pub after-exact : (now ms : ℕ) → now ≤ last_time → ms ≤ last_time → after_ms now ms ≡ now + ms
unfolding after_ms
after-exact now ms h k = let l : now + ms ≤ 18446744073709551615 = omega arith in simp (le-leb _ _ l)

-- a time that is due after an accepted call is not before it, and at most 2^62 + 1,000
pub after-within : (now ms most : ℕ) → now ≤ last_time → ms ≤ 1000 → last_due ≤ most → after_ms now ms ≤ most
after-within now ms most h k l = rw (after-exact now ms h (omega arith)) (omega arith)

-- multicast less than `gap` ago, as a bound on the time of the multicast
pub recently-after : (s : Option ℕ) (time now gap : ℕ) → s ≡ Some time → recently s now gap ≡ true → now < time + gap
recently-after s time now gap e h = let l : now - time < gap = ltb-true (now - time) gap (rw e at h) in omega arith

pub recently-never : (now gap : ℕ) → recently None now gap ≡ false
recently-never now gap = refl
