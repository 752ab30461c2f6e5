-- The bytes of pieces, laid one piece after the other. Assumes nothing.
use mathlib.Core.Path.{◌≡◌, refl, sym, ap, ◌∙◌}
use mathlib.Core.List.{List, []}
use mathlib.Core.Bool.{Bool, true, false, cond}
use Prim.Native.Nat.{ℕ, zero, suc, ◌+◌, ◌-◌, ◌*◌, ◌<◌, ◌≤◌}
use native.Mathlib.Omega.{arith}
use borrow.Author.Tests.{ltb-true, ltb-false}
use lib.ListN.{length, take, drop, length-drop, length-append}
use lib.Seq.{sets, length-take-le}
use lib.Dec.{ltb}
use Rattle.wire.proofs.octets.Sets.{sets-append}
use Rattle.trace.specs.reading.Reading.{pieces_of}
use Rattle.trace.specs.reading.Events.{in_piece, data_from}
use Rattle.trace.proofs.reading.Owed.{pieces_more}

-- how many bytes a piece carries
module _ (left : ℕ) where
  by-test : (b : Bool) → ltb left 16 ≡ b → (cond b left 16 ≤ 16) × (cond b left 16 + (left - 16) ≡ left)
  by-test true e = (omega (arith, ltb-true left 16 e), omega (arith, ltb-true left 16 e))
  by-test false e = (omega arith, omega (arith, ltb-false left 16 e))

  pub in_piece_most : in_piece left ≤ 16
  in_piece_most = (by-test (ltb left 16) refl).0

  pub in_piece_rest : in_piece left + (left - 16) ≡ left
  in_piece_rest = (by-test (ltb left 16) refl).1

module _ (p : List ℕ) (at left : ℕ) (h : 0 < left) (w : at + 17 * pieces_of left ≤ length p) where
  pub piece_fits : at + 17 ≤ length p
  piece_fits = omega (arith, pieces_more left h)

  pub rest_fits : at + 17 + 17 * pieces_of (left - 16) ≤ length p
  rest_fits = omega (arith, pieces_more left h)

  pub length-piece : length (take (in_piece left) (drop (at + 1) p)) ≡ in_piece left
  length-piece = length-take-le (in_piece left) (drop (at + 1) p) (omega (arith, length-drop (at + 1) p, in_piece_most left, piece_fits))

  pub gather_turn : (out : List ℕ) (len : ℕ) → left ≤ len
      → sets out (len - left) (data_from (pieces_of left) p at left)
      ≡ sets (sets out (len - left) (take (in_piece left) (drop (at + 1) p))) (len - (left - 16)) (data_from (pieces_of (left - 16)) p (at + 17) (left - 16))
  unfolding data_from
  gather_turn out len most =
      let x = take (in_piece left) (drop (at + 1) p) in
      let next : len - left + length x ≡ len - (left - 16) = omega (arith, length-piece, in_piece_rest left) in
      rw (pieces_more left h) (
      sym (sets-append out (len - left) x (data_from (pieces_of (left - 16)) p (at + 17) (left - 16)))
      ∙ ap (λ (n : ℕ). sets (sets out (len - left) x) n (data_from (pieces_of (left - 16)) p (at + 17) (left - 16))) next
      )

pub gather_none : (p : List ℕ) (at : ℕ) → data_from (pieces_of 0) p at 0 ≡ []
unfolding data_from
gather_none p at = refl

-- the bytes are as many as are told
length_from : (k : ℕ) (p : List ℕ) (at left : ℕ) → k ≡ pieces_of left → at + 17 * k ≤ length p → length (data_from k p at left) ≡ left
unfolding data_from
length_from zero p at left e w = omega arith
length_from (suc k) p at left e w =
    let more : 0 < left = omega arith in
    let w2 : at + 17 * pieces_of left ≤ length p = omega arith in
    let rest = length_from k p (at + 17) (left - 16) (omega (arith, pieces_more left more)) (omega arith) in
    omega (
      arith,
      length-append (take (in_piece left) (drop (at + 1) p)) (data_from k p (at + 17) (left - 16)),
      length-piece p at left more w2,
      in_piece_rest left,
    )

pub length-data : (p : List ℕ) (at left : ℕ) → at + 17 * pieces_of left ≤ length p → length (data_from (pieces_of left) p at left) ≡ left
length-data p at left w = length_from (pieces_of left) p at left refl w
