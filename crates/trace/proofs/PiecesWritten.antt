-- Pieces that were read are those that the writer writes for their bytes. Assumes nothing.
use mathlib.Core.Path.{◌≡◌, refl, sym, ap, ◌∙◌}
use mathlib.Core.List.{List, [], ◌∷◌, ◌++◌, append-nil, append_assoc}
use mathlib.Core.Bool.{Bool, true, false, cond, ◌&&◌}
use Prim.Native.Nat.{ℕ, zero, suc, ◌+◌, ◌-◌, ◌<◌, ◌≤◌}
use native.Mathlib.Omega.{arith}
use borrow.Author.Tests.{ltb-true, eqb-true}
use lib.ListN.{length, take, drop, replicate, length-drop, take-append-drop, drop_of_length-le}
use lib.Seq.{take_all, take_at, drop_at, take-add, drop-drop, length-take-le}
use lib.Dec.{ltb, eqb}
use Rattle.std.specs.Prelude.{Option, Some, None, Ok}
use Rattle.trace.specs.reading.Reading.{refused}
use Rattle.wire.specs.octets.Octets.{byte_at}
use Rattle.trace.specs.records.Records.{record_at}
use Rattle.trace.specs.reading.Reading.{all_zero, pieces_of, padding_at, is_padded, is_piece, pieces_at}
use Rattle.trace.specs.reading.Events.{in_piece, data_from}
use Rattle.trace.specs.writing.Bytes.{piece_of, pieces_over}
use Rattle.trace.specs.declared.records.Record.{Record}
use Rattle.trace.specs.declared.records.Record.TheVariants as is
use Rattle.trace.proofs.records.Standing.{stand, never}
use Rattle.trace.proofs.reading.Owed.{pieces_more, piece_whole}
use Rattle.trace.proofs.reading.Placed.{pieces_end, not-refused}
use Rattle.trace.proofs.Numbers.{next_byte, byte_of-kind}

pub moved : (p : List ℕ) (i j : ℕ) → i ≡ j → drop i p ≡ drop j p
moved p i j e = ap (λ (k : ℕ). drop k p) e

-- zeros are zeros
and_left : (a b : Bool) → (a && b) ≡ true → a ≡ true
and_left true b e = refl
and_left false b e = never e

and_right : (a b : Bool) → (a && b) ≡ true → b ≡ true
and_right true b e = e
and_right false b e = never e

all-zeros : (l : List ℕ) → all_zero l ≡ true → l ≡ replicate (length l) 0
unfolding all_zero
all-zeros [] e = refl
all-zeros (b ∷ bs) e =
    let here = eqb-true b 0 (and_left (eqb b 0) (all_zero bs) e) in
    let rest = all-zeros bs (and_right (eqb b 0) (all_zero bs) e) in
    λ i. here i ∷ rest i

module _ (p : List ℕ) (at left : ℕ) where
  -- a piece that can stand: its kind, and its padding
  piece_by : (r : Option Record) → record_at p at ≡ r → is_padded p at left r ≡ true → (byte_at p at ≡ 3) × (all_zero (padding_at p at left) ≡ true)
  piece_by (Some is.Piece) e h = (byte_of-kind (byte_at p at) _ (stand p at is.Piece e).kind, h)
  piece_by (Some (is.Tick time)) e h = never h
  piece_by (Some (is.Packet time port draw len)) e h = never h
  piece_by (Some (is.Claim last claim state)) e h = never h
  piece_by (Some (is.Source from hold)) e h = never h
  piece_by (Some (is.Stop time)) e h = never h
  piece_by (Some (is.Port time port)) e h = never h
  piece_by (Some (is.Txt time len)) e h = never h
  piece_by None e h = never h

  module _ (b : is_piece p at left ≡ true) where
    whole : at + 17 ≤ length p
    whole = piece_whole p at left b

    known : (byte_at p at ≡ 3) × (all_zero (padding_at p at left) ≡ true)
    unfolding is_piece
    known = piece_by (record_at p at) refl b

    carried : List ℕ
    carried = take (in_piece left) (drop (at + 1) p)

    body_length : 16 ≤ length (drop (at + 1) p)
    body_length = omega (arith, length-drop (at + 1) p, whole)

    -- its sixteen bytes are those that it carries, and zeros
    body_by : (t : Bool) → ltb left 16 ≡ t → (take 16 (drop (at + 1) p) ≡ carried ++ replicate (16 - length carried) 0) × (length carried ≡ cond t left 16)
    unfolding carried
    body_by true e =
        let l = drop (at + 1) p in
        let few : left < 16 = ltb-true left 16 e in
        let n : in_piece left ≡ left = simp e in
        let x : take (in_piece left) l ≡ take left l = ap (λ (k : ℕ). take k l) n in
        let size : length (take left l) ≡ left = length-take-le left l (omega (arith, body_length)) in
        let sum : 16 ≡ left + (16 - left) = omega arith in
        let pad : take (16 - left) (drop left l) ≡ padding_at p at left = ap (take (16 - left)) (drop-drop left (at + 1) p) in
        let count : length (padding_at p at left) ≡ 16 - left =
        length-take-le (16 - left) (drop (at + 1 + left) p) (omega (arith, length-drop (at + 1 + left) p, whole)) in (
          ap (λ (k : ℕ). take k l) sum ∙ take-add left (16 - left) l
              ∙ ap (λ (z : List ℕ). take left l ++ z) (pad ∙ all-zeros (padding_at p at left) known.1 ∙ ap (λ (k : ℕ). replicate k 0) (count ∙ ap (λ (k : ℕ). 16 - k) (sym size)))
              ∙ ap (λ (y : List ℕ). y ++ replicate (16 - length y) 0) (sym x),
          ap length x ∙ size,
        )
    body_by false e =
        let l = drop (at + 1) p in
        let n : in_piece left ≡ 16 = simp e in
        let x : take (in_piece left) l ≡ take 16 l = ap (λ (k : ℕ). take k l) n in
        let size : length (take 16 l) ≡ 16 = length-take-le 16 l body_length in (
          sym (append-nil (take 16 l)) ∙ ap (λ (k : ℕ). take 16 l ++ replicate (16 - k) 0) (sym size)
              ∙ ap (λ (y : List ℕ). y ++ replicate (16 - length y) 0) (sym x),
          ap length x ∙ size,
        )

    -- the piece and what is behind it
    piece_split : drop at p ≡ piece_of carried ++ drop (at + 17) p
    piece_split =
        let l = drop (at + 1) p in
        let rest : drop 16 l ≡ drop (at + 17) p = drop-drop 16 (at + 1) p ∙ moved p (at + 1 + 16) (at + 17) (omega arith) in
        next_byte p at (at + 1) refl (omega (arith, whole))
        ∙ ap (λ (v : ℕ). v ∷ l) known.0
        ∙ ap (λ (y : List ℕ). 3 ∷ y) (sym (take-append-drop 16 l) ∙ ap (λ (y : List ℕ). y ++ drop 16 l) (body_by (ltb left 16) refl).0 ∙ ap (λ (y : List ℕ). (carried ++ replicate (16 - length carried) 0) ++ y) rest)

    -- all bytes, those of this piece first
    data_by : (k : ℕ) (others : List ℕ) → suc k ≡ pieces_of left → (k ≡ 0 → others ≡ []) → (t : Bool) → ltb left 16 ≡ t
        → (take 16 (carried ++ others) ≡ carried) × (drop 16 (carried ++ others) ≡ others)
    data_by k others ek none true e =
        let few : left < 16 = ltb-true left 16 e in
        let gone : others ≡ [] = none (omega arith) in
        let same : carried ++ others ≡ carried = ap (λ (y : List ℕ). carried ++ y) gone ∙ append-nil carried in
        let short : length carried ≤ 16 = omega (arith, (body_by true e).1) in
        (ap (take 16) same ∙ take_all 16 carried short, ap (drop 16) same ∙ drop_of_length-le carried short ∙ sym gone)
    data_by k others ek none false e = (take_at carried others 16 (body_by false e).1, drop_at carried others 16 (body_by false e).1)

pub pieces_written : (k : ℕ) (p : List ℕ) (at left n : ℕ) → k ≡ pieces_of left → at ≤ length p → pieces_at k p at left ≡ Ok n
    → drop at p ≡ pieces_over k (data_from k p at left) ++ drop n p
unfolding pieces_at pieces_over data_from carried
pieces_written zero p at left n ek h e = moved p at n (omega (arith, (pieces_end p 0 at left n h e).0))
pieces_written (suc k) p at left n ek h e =
    go (is_piece p at left) refl e
    (λ w q. pieces_written k p (at + 17) (left - 16) n (omega (arith, pieces_more left (omega arith))) w q)
  where
    go : (b : Bool) → is_piece p at left ≡ b → cond b (pieces_at k p (at + 17) (left - 16)) (refused at) ≡ Ok n
        → (at + 17 ≤ length p → pieces_at k p (at + 17) (left - 16) ≡ Ok n
        → drop (at + 17) p ≡ pieces_over k (data_from k p (at + 17) (left - 16)) ++ drop n p)
        → drop at p ≡ pieces_over (suc k) (data_from (suc k) p at left) ++ drop n p
    go true eb q rest =
        let others = data_from k p (at + 17) (left - 16) in
        let x = carried p at left eb in
        let none : k ≡ 0 → others ≡ [] = λ z. ap (λ (m : ℕ). data_from m p (at + 17) (left - 16)) z in
        let split = data_by p at left eb k others ek none (ltb left 16) refl in
        piece_split p at left eb
        ∙ ap (λ (y : List ℕ). piece_of x ++ y) (rest (whole p at left eb) q)
        ∙ sym (append_assoc (piece_of x) (pieces_over k others) (drop n p))
        ∙ ap (λ (y : List ℕ). (piece_of y ++ pieces_over k others) ++ drop n p) (sym split.0)
        ∙ ap (λ (y : List ℕ). (piece_of (take 16 (x ++ others)) ++ pieces_over k y) ++ drop n p) (sym split.1)
    go false eb q rest = not-refused q
