-- A state in numbers says its browser: there and back it is the same, so a refused call gives back the state that it was handed. Assumes nothing.
use Rattle.std.proofs.Common.{None, Option, Some}
use Prim.Native.Nat.{ℕ, zero, suc, ◌+◌, ◌-◌, ◌<◌, ◌^◌}
use mathlib.Core.Path.{◌≡◌, refl, ap, ◌∙◌}
use native.Mathlib.Omega.{arith}
use borrow.Author.Tests.{ne_eqb}
use Rattle.browser.specs.declared.Browser.{Browser}
use Rattle.capi_browser.specs.declared.BrowserNumbers.{BrowserNumbers}
use Rattle.capi_browser.specs.Numbers.{owed_of, owed_number, browser_of, numbers_of}

owed_back : (n : ℕ) → n < 2 ^ 64 → owed_number (owed_of n) ≡ n
unfolding owed_of
owed_back zero h = refl
owed_back (suc n) h =
    let z : n ≡ 18446744073709551615 → ⊥ = λ e. omega arith in
    let a : suc n ≡ 0 → ⊥ = λ e. omega arith in
    let k : suc n - 1 ≡ n = omega arith in
    simp (ne_eqb _ _ a) (ap (λ (m : ℕ). owed_number (Some m)) k ∙ simp (ne_eqb _ _ z) (omega arith))

pub numbers-back : (b : BrowserNumbers) → b.owed < 2 ^ 64 → numbers_of (browser_of b) ≡ b
unfolding numbers_of browser_of
numbers-back b h = ap (λ (n : ℕ). record { service = b.service; protocol = b.protocol; domain = b.domain; len = b.len; draw = b.draw; refresh = b.refresh; series = b.series; count = b.count; query = b.query; owed = n; last = b.last }) (owed_back b.owed h)

slot-back : (s : Option ℕ) → (s ≡ Some 18446744073709551615 → ⊥) → owed_of (owed_number s) ≡ s
unfolding owed_of
slot-back (Some i) z =
    let no : i ≡ 18446744073709551615 → ⊥ = λ e. z (ap Some e) in
    let a : i + 1 ≡ 0 → ⊥ = λ e. omega arith in
    let k : i + 1 - 1 ≡ i = omega arith in
    simp (ne_eqb _ _ no, ne_eqb _ _ a) (ap Some k)
slot-back None z = refl

-- and a browser is what its numbers say, but for a slot that no table has
pub browser_back : (b : Browser) → (b.owed ≡ Some 18446744073709551615 → ⊥) → browser_of (numbers_of b) ≡ b
unfolding numbers_of browser_of
browser_back b z = ap (λ (s : Option ℕ). record { service = b.service; protocol = b.protocol; domain = b.domain; draw = b.draw; refresh = b.refresh; series = b.series; count = b.count; query = b.query; owed = s; last = b.last }) (slot-back b.owed z)
