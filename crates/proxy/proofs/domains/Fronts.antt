-- The first bytes of a name and a domain behind them, in a buffer of zeros. Assumes nothing.
use Rattle.std.specs.Prelude.{Option, Some, None}
use mathlib.Core.Path.{◌≡◌, refl, sym, ap, ◌∙◌}
use mathlib.Core.List.{List, ◌++◌}
use mathlib.Core.Bool.{Bool, true, false, cond}
use Prim.Native.Nat.{ℕ, ◌+◌, ◌≤◌}
use native.Mathlib.Omega.{arith}
use borrow.Author.Tests.{le-ltb}
use lib.ListN.{length, take, replicate, length-append}
use lib.Seq.{sets, length-take-le}
use Rattle.wire.proofs.octets.Sets.{sets-append}
use Rattle.proxy.specs.domains.Under.{is_overlong, moved_name, moved_of}
use Rattle.proxy.specs.declared.domains.Moved.{Moved}

module _ (name domain : List ℕ) (front : ℕ) (fits : front ≤ length name) where
  pub joined_length : length (take front name ++ domain) ≡ front + length domain
  joined_length = omega (arith, length-append (take front name) domain, length-take-le front name fits)

  pub joined_bytes : front + length domain ≤ 255 → (a b : List ℕ) → a ≡ sets (replicate 255 0) 0 (take front name) → b ≡ sets a front domain
      → ◌≡◌ {A = Option Moved} (Some (record { len = front + length domain; bytes = b })) (moved_of (take front name ++ domain))
  joined_bytes h a b e f =
      let l : length (take front name ++ domain) ≤ 255 = omega (arith, joined_length) in
      let at : front ≡ 0 + length (take front name) = omega (arith, length-take-le front name fits) in
      let all : b ≡ sets (replicate 255 0) 0 (take front name ++ domain) =
      f ∙ ap (λ (o : List ℕ). sets o front domain) e ∙ ap (λ (k : ℕ). sets (sets (replicate 255 0) 0 (take front name)) k domain) at
      ∙ sets-append (replicate 255 0) 0 (take front name) domain in
      simp (le-ltb _ _ l) (λ i. Some (record { len = sym joined_length i; bytes = all i }))

-- a name that was moved fits
pub moved-fits : (name : List ℕ) (m : Moved) → Some m ≡ moved_of name → (is_overlong name ≡ false) × (m ≡ moved_name name)
moved-fits name m is = go (is_overlong name) refl is
  where
    go : (b : Bool) → is_overlong name ≡ b → Some m ≡ cond b None (Some (moved_name name)) → (is_overlong name ≡ false) × (m ≡ moved_name name)
    go true e h = let z : ◌≡◌ {A = ℕ} 0 1 = cc in absurd (omega arith)
    go false e h = (e, cc)
