-- Bytes that stand in a trace, and what they read as. Assumes nothing.
use mathlib.Core.Path.{◌≡◌, sym, ap, ◌∙◌}
use mathlib.Core.List.{List, ◌∷◌, ◌++◌, append_assoc}
use Prim.Native.Nat.{ℕ, ◌+◌, ◌<◌, ◌≤◌}
use native.Mathlib.Omega.{arith}
use lib.ListN.{length, drop, get_or, length-append, length-drop}
use lib.Seq.{drop_at, drop-drop, get_or-drop}
use Rattle.wire.specs.octets.Octets.{byte_at, word16, word32}
use Rattle.trace.specs.records.Numbers.{word64, bytes16, bytes64}

-- `bytes` stand in `p` from `at` on, with `rest` behind them
pub record Stands (p : List ℕ) (at : ℕ) (bytes rest : List ℕ) : Type 0 where
  pub is : drop at p ≡ bytes ++ rest

module _ {p : List ℕ} {at : ℕ} (x y : List ℕ) {rest : List ℕ} (s : Stands p at (x ++ y) rest) where
  pub front : Stands p at x (y ++ rest)
  front = record { is = s.is ∙ append_assoc x y rest }

  -- what stands behind the first `n` of them
  pub behind : (n : ℕ) → length x ≡ n → Stands p (at + n) y rest
  behind n e = record { is = sym (drop-drop n at p) ∙ ap (drop n) (s.is ∙ append_assoc x y rest) ∙ drop_at x (y ++ rest) n e }

-- what stands behind all of them
pub after : {p : List ℕ} {at : ℕ} (x : List ℕ) {rest : List ℕ} → Stands p at x rest → (n : ℕ) → length x ≡ n → drop (at + n) p ≡ rest
after {p} {at} x {rest} s n e = sym (drop-drop n at p) ∙ ap (drop n) s.is ∙ drop_at x rest n e

-- they lie within
pub within : {p : List ℕ} {at : ℕ} (x : List ℕ) {rest : List ℕ} → Stands p at x rest → 0 < length x → at + length x ≤ length p
within {p} {at} x {rest} s h = omega (arith, length-drop at p, ap length s.is, length-append x rest)

-- ---- numbers

module _ (p : List ℕ) (at : ℕ) where
  byte_from : (k i : ℕ) → i ≡ at + k → byte_at p i ≡ byte_at (drop at p) k
  byte_from k i e = ap (λ (j : ℕ). get_or p j 0) e ∙ sym (get_or-drop at p k 0)

  word16-from : (k i : ℕ) → i ≡ at + k → word16 p i ≡ word16 (drop at p) k
  word16-from k i e = omega (arith, byte_from k i e, byte_from (k + 1) (i + 1) (omega arith))

  word32-from : (k i : ℕ) → i ≡ at + k → word32 p i ≡ word32 (drop at p) k
  word32-from k i e = omega (arith, word16-from k i e, word16-from (k + 2) (i + 2) (omega arith))

  word64-from : word64 p at ≡ word64 (drop at p) 0
  word64-from = omega (arith, word32-from 0 at (omega arith), word32-from 4 (at + 4) (omega arith))

module _ {p : List ℕ} {at : ℕ} {rest : List ℕ} where
  pub byte_read : (v : ℕ) (x : List ℕ) → Stands p at (v ∷ x) rest → byte_at p at ≡ v
  byte_read v x s = byte_from p at 0 at (omega arith) ∙ ap (λ (l : List ℕ). byte_at l 0) s.is

  pub word16-read : (n : ℕ) → Stands p at (bytes16 n) rest → word16 p at ≡ n
  word16-read n s = word16-from p at 0 at (omega arith) ∙ ap (λ (l : List ℕ). word16 l 0) s.is ∙ back
    where
      back : word16 (bytes16 n ++ rest) 0 ≡ n
      back = omega arith

  pub number_read : (n : ℕ) → n < 18446744073709551616 → Stands p at (bytes64 n) rest → word64 p at ≡ n
  unfolding bytes64
  number_read n h s = word64-from p at ∙ ap (λ (l : List ℕ). word64 l 0) s.is ∙ back
    where
      back : word64 (bytes64 n ++ rest) 0 ≡ n
      back = omega arith
