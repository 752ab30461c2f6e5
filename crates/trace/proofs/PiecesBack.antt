-- The pieces of some bytes are read as those bytes. Assumes nothing.
use mathlib.Core.Path.{◌≡◌, refl, sym, ap, ◌∙◌}
use mathlib.Core.List.{List, [], ◌∷◌, ◌++◌, append_assoc}
use mathlib.Core.Bool.{Bool, true, false}
use Prim.Native.Nat.{ℕ, zero, suc, ◌+◌, ◌-◌, ◌*◌, ◌<◌, ◌≤◌}
use native.Mathlib.Omega.{arith}
use lib.ListN.{length, take, drop, replicate, length-drop, length-append, length-replicate, take-append-drop}
use lib.Seq.{take_at, drop_at, drop-drop, length-take-le}
use lib.Dec.{leb}
use borrow.Author.Tests.{leb-true, leb-false}
use Rattle.std.specs.Prelude.{Ok}
use Rattle.trace.specs.reading.Reading.{all_zero, pieces_of, padding_at, is_padded, is_piece, pieces_at}
use Rattle.trace.specs.reading.Events.{in_piece, data_from}
use Rattle.trace.specs.writing.Bytes.{piece_of, pieces_over}
use Rattle.trace.proofs.reading.Owed.{pieces_more}
use Rattle.trace.proofs.reading.Gathered.{in_piece_most, in_piece_rest}
use Rattle.trace.proofs.writing.Laid.{length-piece_of}
use Rattle.trace.proofs.writing.Turned.{take-in_piece}
use Rattle.trace.proofs.Stands.{Stands, front, behind}
use Rattle.trace.proofs.Fields.{piece_read}

zeros : (n : ℕ) → all_zero (replicate n 0) ≡ true
unfolding all_zero
zeros zero = refl
zeros (suc n) = zeros n

length_front : (bytes : List ℕ) → length (take 16 bytes) ≡ in_piece (length bytes)
length_front bytes =
    ap length (sym (take-in_piece bytes)) ∙ length-take-le (in_piece (length bytes)) bytes (omega (arith, in_piece_rest (length bytes)))

pub length-first : (bytes : List ℕ) → length (piece_of (take 16 bytes)) ≡ 17
length-first bytes = length-piece_of (take 16 bytes) (omega (arith, length_front bytes, in_piece_most (length bytes)))

pub length-pieces : (k : ℕ) (bytes : List ℕ) → length (pieces_over k bytes) ≡ 17 * k
unfolding pieces_over
length-pieces zero bytes = refl
length-pieces (suc k) bytes =
    omega (
      arith,
      length-append (piece_of (take 16 bytes)) (pieces_over k (drop 16 bytes)),
      length-first bytes,
      length-pieces k (drop 16 bytes),
    )

module _ {p : List ℕ} {at : ℕ} (bytes : List ℕ) {more : List ℕ} (s : Stands p at (piece_of (take 16 bytes)) more) where
  padding : List ℕ
  padding = replicate (16 - length (take 16 bytes)) 0

  body : drop (at + 1) p ≡ take 16 bytes ++ (padding ++ more)
  unfolding padding
  body = (behind (3 ∷ []) (take 16 bytes ++ replicate (16 - length (take 16 bytes)) 0) s 1 refl).is ∙ append_assoc (take 16 bytes) _ more

  pub carried : take (in_piece (length bytes)) (drop (at + 1) p) ≡ take 16 bytes
  carried = ap (take (in_piece (length bytes))) body ∙ take_at (take 16 bytes) (padding ++ more) (in_piece (length bytes)) (length_front bytes)

  padded : (b : Bool) → leb (length bytes) 16 ≡ b → all_zero (padding_at p at (length bytes)) ≡ true
  unfolding all_zero padding
  padded true e =
      let few : length bytes ≤ 16 = leb-true (length bytes) 16 e in
      let same : length (take 16 bytes) ≡ length bytes = omega (arith, length_front bytes, in_piece_rest (length bytes)) in
      let left : drop (at + 1 + length bytes) p ≡ padding ++ more =
      sym (drop-drop (length bytes) (at + 1) p) ∙ ap (drop (length bytes)) body ∙ drop_at (take 16 bytes) (padding ++ more) (length bytes) same in
      let count : length padding ≡ 16 - length bytes =
      length-replicate {A = ℕ} (16 - length (take 16 bytes)) 0 ∙ ap (λ (n : ℕ). 16 - n) same in
      ap all_zero (ap (take (16 - length bytes)) left ∙ take_at padding more (16 - length bytes) count) ∙ zeros (16 - length (take 16 bytes))
  padded false e =
      let none : 16 - length bytes ≡ 0 = omega (arith, leb-false (length bytes) 16 e) in
      ap (λ (n : ℕ). all_zero (take n (drop (at + 1 + length bytes) p))) none

  pub stands_piece : is_piece p at (length bytes) ≡ true
  unfolding is_piece
  stands_piece = ap (is_padded p at (length bytes)) (piece_read (take 16 bytes) (length-first bytes) s) ∙ padded (leb (length bytes) 16) refl

pub pieces_back : (k : ℕ) (bytes : List ℕ) {p : List ℕ} {at : ℕ} {rest : List ℕ} → k ≡ pieces_of (length bytes) → Stands p at (pieces_over k bytes) rest
    → (pieces_at k p at (length bytes) ≡ Ok (at + 17 * k)) × (data_from k p at (length bytes) ≡ bytes)
unfolding pieces_over pieces_at data_from
pieces_back zero [] {p} {at} e s = (ap Ok (omega arith), refl)
pieces_back zero (b ∷ bs) e s = absurd (omega arith)
pieces_back (suc k) bytes {p} {at} {rest} e s =
    let first = front (piece_of (take 16 bytes)) (pieces_over k (drop 16 bytes)) s in
    let others = behind (piece_of (take 16 bytes)) (pieces_over k (drop 16 bytes)) s 17 (length-first bytes) in
    let more : 0 < length bytes = omega arith in
    let fewer : length (drop 16 bytes) ≡ length bytes - 16 = length-drop 16 bytes in
    let ke : k ≡ pieces_of (length (drop 16 bytes)) = omega (arith, pieces_more (length bytes) more, fewer) in
    let known = pieces_back k (drop 16 bytes) ke others in (
      simp (stands_piece bytes first)
          (ap (pieces_at k p (at + 17)) (sym fewer) ∙ known.0 ∙ ap Ok (omega arith)),
      ap (λ (l : List ℕ). l ++ data_from k p (at + 17) (length bytes - 16)) (carried bytes first)
          ∙ ap (λ (n : ℕ). take 16 bytes ++ data_from k p (at + 17) n) (sym fewer)
          ∙ ap (λ (l : List ℕ). take 16 bytes ++ l) known.1
          ∙ take-append-drop 16 bytes,
    )
