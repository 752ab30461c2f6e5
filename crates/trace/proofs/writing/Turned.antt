-- Pieces, laid one after the other. Assumes nothing.
use mathlib.Core.Path.{◌≡◌, refl, sym, ap, ◌∙◌}
use mathlib.Core.List.{List, ◌++◌}
use mathlib.Core.Bool.{Bool, true, false, cond}
use Prim.Native.Nat.{ℕ, suc, ◌+◌, ◌-◌, ◌<◌, ◌≤◌, min}
use native.Mathlib.Omega.{arith}
use borrow.Author.Tests.{ltb-true, ltb-false}
use lib.ListN.{length, take, drop, length-append, length-drop, drop_of_length-le}
use lib.Seq.{sets, take_all, take_at, drop_at, length-take-le}
use lib.Dec.{ltb}
use Rattle.wire.proofs.octets.Sets.{sets-append}
use Rattle.trace.specs.reading.Reading.{pieces_of}
use Rattle.trace.specs.reading.Events.{in_piece}
use Rattle.trace.specs.writing.Bytes.{piece_of, pieces_over}
use Rattle.trace.proofs.reading.Owed.{pieces_more}
use Rattle.trace.proofs.reading.Gathered.{in_piece_most, in_piece_rest}
use Rattle.trace.proofs.writing.Laid.{length-piece_of}

-- the part of a piece is all that there is of sixteen bytes
take_by : (l : List ℕ) (b : Bool) → ltb (length l) 16 ≡ b → take (cond b (length l) 16) l ≡ take 16 l
take_by l true e = take_all (length l) l (omega arith) ∙ sym (take_all 16 l (omega (arith, ltb-true (length l) 16 e)))
take_by l false e = refl

pub take-in_piece : (l : List ℕ) → take (in_piece (length l)) l ≡ take 16 l
take-in_piece l = take_by l (ltb (length l) 16) refl

drop-by : (l : List ℕ) (b : Bool) → ltb (length l) 16 ≡ b → drop (cond b (length l) 16) l ≡ drop 16 l
drop-by l true e =
    let h : length l ≤ 16 = omega (arith, ltb-true (length l) 16 e) in
    let k : length l ≤ length l = omega arith in
    drop_of_length-le l k ∙ sym (drop_of_length-le l h)
drop-by l false e = refl

pub drop-in_piece : (l : List ℕ) → drop (in_piece (length l)) l ≡ drop 16 l
drop-in_piece l = drop-by l (ltb (length l) 16) refl

module _ (l : List ℕ) (h : 0 < length l) where
  pub length_front : length (take (in_piece (length l)) l) ≤ 16
  length_front = omega (arith, length-take-le (in_piece (length l)) l (omega (arith, in_piece_rest (length l))), in_piece_most (length l))

  -- the first piece, and those behind it
  pub pieces_cons : pieces_over (pieces_of (length l)) l
      ≡ piece_of (take (in_piece (length l)) l) ++ pieces_over (pieces_of (length (drop (in_piece (length l)) l))) (drop (in_piece (length l)) l)
  unfolding pieces_over
  pieces_cons =
      let fewer : length (drop 16 l) ≡ length l - 16 = length-drop 16 l in
      rw (pieces_more (length l) h, take-in_piece l, drop-in_piece l, fewer)

  pub turn : (out : List ℕ) (at : ℕ)
      → sets out at (pieces_over (pieces_of (length l)) l)
      ≡ sets (sets out at (piece_of (take (in_piece (length l)) l))) (at + 17)
      (pieces_over (pieces_of (length (drop (in_piece (length l)) l))) (drop (in_piece (length l)) l))
  turn out at =
      let x = piece_of (take (in_piece (length l)) l) in
      let y = pieces_over (pieces_of (length (drop (in_piece (length l)) l))) (drop (in_piece (length l)) l) in
      ap (sets out at) pieces_cons ∙ sym (sets-append out at x y)
      ∙ ap (λ (n : ℕ). sets (sets out at x) (at + n) y) (length-piece_of (take (in_piece (length l)) l) length_front)

-- the same, of bytes that come in parts of sixteen
part_size : (n : ℕ) (b : Bool) → ltb n 16 ≡ b → min 16 n ≡ cond b n 16
part_size n true e = omega (arith, ltb-true n 16 e)
part_size n false e = omega (arith, ltb-false n 16 e)

module _ (bytes part rest : List ℕ) (split : bytes ≡ part ++ rest) (size : length part ≡ min 16 (length bytes)) (more : 0 < length bytes) where
  carried : length part ≡ in_piece (length bytes)
  carried = size ∙ part_size (length bytes) (ltb (length bytes) 16) refl

  taken : take (in_piece (length bytes)) bytes ≡ part
  taken = ap (take (in_piece (length bytes))) split ∙ take_at part rest (in_piece (length bytes)) carried

  left : drop (in_piece (length bytes)) bytes ≡ rest
  left = ap (drop (in_piece (length bytes))) split ∙ drop_at part rest (in_piece (length bytes)) carried

  pub turn_part : (out : List ℕ) (at : ℕ)
      → sets out at (pieces_over (pieces_of (length bytes)) bytes)
      ≡ sets (sets out at (piece_of part)) (at + 17) (pieces_over (pieces_of (length rest)) rest)
  turn_part out at = turn bytes more out at ∙ (λ i. sets (sets out at (piece_of (taken i))) (at + 17) (pieces_over (pieces_of (length (left i))) (left i)))

  pub pieces_left : pieces_of (length bytes) ≡ suc (pieces_of (length rest))
  pieces_left = omega (arith, ap length split, length-append part rest, pieces_more (length bytes) more)

pub no_pieces : (out bytes : List ℕ) (at : ℕ) → sets out at (pieces_over (pieces_of 0) bytes) ≡ out
unfolding pieces_over
no_pieces out bytes at = refl
