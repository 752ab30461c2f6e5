-- Bytes laid behind one another. Assumes nothing.
use mathlib.Core.Path.{◌≡◌, refl, sym, ap, ◌∙◌}
use mathlib.Core.List.{List, [], ◌∷◌, ◌++◌}
use mathlib.Core.Bool.{Bool, true, false}
use Prim.Native.Nat.{ℕ, zero, suc, ◌+◌, ◌-◌, ◌≤◌}
use native.Mathlib.Omega.{arith}
use lib.ListN.{length, take, replicate, length-append, length-replicate}
use lib.Seq.{sets}
use Rattle.wire.proofs.octets.Sets.{sets-append}
use Rattle.claims.specs.declared.holds.Address.{Address}
use Rattle.trace.specs.records.Numbers.{bytes16, bytes64}
use Rattle.trace.specs.reading.Reading.{is_usual}
use Rattle.trace.specs.reading.Events.{packet}
use Rattle.trace.specs.writing.Bytes.{headed, piece_of, source_bytes, packet_bytes, packet_numbers, bytes_of}

pub laid : (out : List ℕ) (at k : ℕ) (x y o1 o2 : List ℕ) → length x ≡ k → o1 ≡ sets out at x → o2 ≡ sets o1 (at + k) y → o2 ≡ sets out at (x ++ y)
laid out at k x y o1 o2 ek e1 e2 =
    e2 ∙ ap (λ (l : List ℕ). sets l (at + k) y) e1 ∙ ap (λ (n : ℕ). sets (sets out at x) (at + n) y) (sym ek) ∙ sets-append out at x y

pub length-headed : (kind n : ℕ) → length (headed kind n) ≡ 9
unfolding bytes64
length-headed kind n = refl

pub length_high : (n m : ℕ) → length (headed 5 n ++ bytes64 m) ≡ 17
unfolding bytes64
length_high n m = refl

pub length-source : (from : Address) (hold : ℕ) → length (source_bytes from hold) ≡ 19
unfolding bytes64
length-source from hold = refl

pub length-packet : (time port draw len : ℕ) → length (headed 2 time ++ packet_numbers port draw len) ≡ 14
unfolding bytes64
length-packet time port draw len = refl

pub length-txt : (time len : ℕ) → length (headed 8 time ++ bytes16 len) ≡ 11
unfolding bytes64
length-txt time len = refl

pub take-replicate : (k m a : ℕ) → k ≤ m → take k (replicate m a) ≡ replicate k a
take-replicate zero m a h = refl
take-replicate (suc k) zero a h = absurd (omega arith)
take-replicate (suc k) (suc m) a h = ap (λ (l : List ℕ). a ∷ l) (take-replicate k m a (omega arith))

pub length-piece_of : (bytes : List ℕ) → length bytes ≤ 16 → length (piece_of bytes) ≡ 17
length-piece_of bytes h =
    omega (arith, length-append bytes (replicate (16 - length bytes) 0), length-replicate {A = ℕ} (16 - length bytes) 0)

-- a piece, laid in three parts
pub piece_laid : (out : List ℕ) (at : ℕ) (bytes zeros o1 o2 o3 : List ℕ) → zeros ≡ replicate (16 - length bytes) 0 → o1 ≡ sets out at (3 ∷ [])
    → o2 ≡ sets o1 (at + 1) bytes → o3 ≡ sets o2 (at + 1 + length bytes) zeros → o3 ≡ sets out at (piece_of bytes)
piece_laid out at bytes zeros o1 o2 o3 ez e1 e2 e3 =
    let both = laid out at 1 (3 ∷ []) bytes o1 o2 refl e1 e2 in
    let place : at + 1 + length bytes ≡ at + (1 + length bytes) = omega arith in
    laid out at (1 + length bytes) (3 ∷ bytes) (replicate (16 - length bytes) 0) o2 o3 (omega arith) both
    (e3 ∙ ap (λ (n : ℕ). sets o2 n zeros) place ∙ ap (sets o2 (at + (1 + length bytes))) ez)

-- the source of a packet
module _ (time : ℕ) (from : Address) (port draw hold : ℕ) (bytes : List ℕ) (u : Bool) (eu : u ≡ is_usual from hold) where
  pub usual_bytes : u ≡ true → bytes_of (packet time from port draw hold bytes) ≡ packet_bytes time port draw bytes
  usual_bytes e = simp (sym eu ∙ e)

  pub sourced_bytes : u ≡ false → bytes_of (packet time from port draw hold bytes) ≡ source_bytes from hold ++ packet_bytes time port draw bytes
  sourced_bytes e = simp (sym eu ∙ e)
