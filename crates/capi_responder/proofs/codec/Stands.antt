-- Bytes that stand in a buffer, and what they read as. Assumes nothing.
use Rattle.std.specs.Prelude.{Option, Some, None}
use mathlib.Core.Path.{◌≡◌, refl, sym, ap, ◌∙◌}
use mathlib.Core.Bool.{Bool, true, false, cond}
use mathlib.Core.List.{List, [], ◌∷◌, ◌++◌, append-nil, append_assoc}
use Prim.Native.Nat.{ℕ, ◌+◌, ◌%◌}
use native.Mathlib.Omega.{arith}
use lib.Dec.{eqb}
use lib.ListN.{length, take, drop, get_or}
use lib.Seq.{take_at, drop_at, drop-drop, get_or-drop}
use Rattle.wire.specs.octets.Octets.{byte_at, word16, word32}
use Rattle.capi_responder.specs.codec.Numbers.{word64, bytes64, Fits64}
use Rattle.capi_responder.specs.codec.Parts.{part_at, flag_at, when_at}
use Rattle.capi_responder.specs.codec.Codec.{when_time, case_bytes, when_bytes, bytes16, flag_byte}

-- `bytes` stand in `b` from `at` on
pub record Stands (b : List ℕ) (at : ℕ) (bytes : List ℕ) : Type 0 where
  pub rest : List ℕ
  pub is : drop at b ≡ bytes ++ rest

-- a buffer stands in itself
pub whole : (b : List ℕ) → Stands b 0 b
whole b = record { rest = []; is = sym (append-nil b) }

module _ {b : List ℕ} {at : ℕ} (x y : List ℕ) (s : Stands b at (x ++ y)) where
  pub front : Stands b at x
  front = record { rest = y ++ s.rest; is = s.is ∙ append_assoc x y s.rest }

  -- what stands behind the first `n` of them
  pub behind : (n : ℕ) → length x ≡ n → Stands b (at + n) y
  behind n e = record {
    rest = s.rest;
    is = sym (drop-drop n at b) ∙ ap (drop n) (s.is ∙ append_assoc x y s.rest) ∙ drop_at x (y ++ s.rest) n e;
  }

-- ---- read

module _ (b : List ℕ) (at : ℕ) where
  byte_from : (k i : ℕ) → i ≡ at + k → byte_at b i ≡ byte_at (drop at b) k
  byte_from k i e = ap (λ (j : ℕ). get_or b j 0) e ∙ sym (get_or-drop at b k 0)

  word16-from : (k i : ℕ) → i ≡ at + k → word16 b i ≡ word16 (drop at b) k
  word16-from k i e = omega (arith, byte_from k i e, byte_from (k + 1) (i + 1) (omega arith))

  word32-from : (k i : ℕ) → i ≡ at + k → word32 b i ≡ word32 (drop at b) k
  word32-from k i e = omega (arith, word16-from k i e, word16-from (k + 2) (i + 2) (omega arith))

  pub word64-from : word64 b at ≡ word64 (drop at b) 0
  word64-from = omega (arith, word32-from 0 at (omega arith), word32-from 4 (at + 4) (omega arith))

module _ {b : List ℕ} {at : ℕ} where
  pub part_read : (x : List ℕ) (n : ℕ) → length x ≡ n → Stands b at x → part_at b at n ≡ x
  part_read x n e s = ap (take n) s.is ∙ take_at x s.rest n e

  pub byte_read : (v : ℕ) (x : List ℕ) → Stands b at (v ∷ x) → byte_at b at ≡ v
  byte_read v x s = byte_from b at 0 at (omega arith) ∙ ap (λ (l : List ℕ). byte_at l 0) s.is

  pub flag_read : (f : Bool) (x : List ℕ) → Stands b at (flag_byte f ∷ x) → flag_at b at ≡ f
  flag_read f x s = ap (λ (v : ℕ). eqb (v % 2) 1) (byte_read (flag_byte f) x s) ∙ low f
    where
      low : (g : Bool) → eqb (flag_byte g % 2) 1 ≡ g
      low true = refl
      low false = refl

  pub word16-read : (n : ℕ) → Stands b at (bytes16 n) → word16 b at ≡ n
  word16-read n s = word16-from b at 0 at (omega arith) ∙ ap (λ (l : List ℕ). word16 l 0) s.is ∙ back
    where
      back : word16 (bytes16 n ++ s.rest) 0 ≡ n
      back = omega arith

  pub number_read : (n : ℕ) → Fits64 n → Stands b at (bytes64 n) → word64 b at ≡ n
  unfolding bytes64
  number_read n h s = word64-from b at ∙ ap (λ (l : List ℕ). word64 l 0) s.is ∙ back
    where
      back : word64 (bytes64 n ++ s.rest) 0 ≡ n
      back = omega arith

module _ {b : List ℕ} {at : ℕ} where
  -- the number behind a case byte
  pub case_read : (tag n : ℕ) → Fits64 n → Stands b at (case_bytes tag n) → word64 b (at + 1) ≡ n
  case_read tag n h s = number_read n h (behind (tag ∷ []) (bytes64 n) s 1 refl)

  time_read : (f : Bool) (n : ℕ) → Fits64 n → Stands b at (case_bytes (flag_byte f) n) → when_at b at ≡ cond f (Some n) None
  unfolding when_at
  time_read f n h s =
      ap (λ (g : Bool). cond g (Some (word64 b (at + 1))) None) (flag_read f (bytes64 n) s) ∙ ap (λ (t : ℕ). cond f (Some t) None) (case_read (flag_byte f) n h s)

  pub when_read : (w : Option ℕ) → Fits64 (when_time w) → Stands b at (when_bytes w) → when_at b at ≡ w
  when_read None h s = time_read false 0 h s
  when_read (Some time) h s = time_read true time h s
