-- A field's bytes in a buffer: as many as have room there. Assumes nothing.
use mathlib.Core.Path.{◌≡◌, refl, sym, ap, ◌∙◌}
use mathlib.Core.List.{List, [], ◌++◌, append-nil}
use mathlib.Core.Bool.{Bool, true, false}
use Prim.Native.Nat.{ℕ, ◌+◌, ◌≤◌, ◌<◌}
use native.Mathlib.Omega.{arith}
use lib.Dec.{leb}
use lib.ListN.{length, take, drop, drop_of_length-le}
use lib.Seq.{sets, sets-eq, take_at, take_all, length-take-le}
use borrow.Author.Tests.{leb-true, leb-false}
use Rattle.console_text.specs.hex.Bytes.{bytes_of}
use Rattle.console_text.specs.fields.Numbers.{field_at}
use Rattle.console_text.specs.fields.Forms.{bytes_in}
use Rattle.console_text.proofs.hex.Filled.{sets-full}

-- bytes that have room lie at the start
short : (l bs : List ℕ) → length bs ≤ length l → take (length bs) (sets l 0 bs) ≡ take (length l) bs
short l bs h =
    let e : sets l 0 bs ≡ bs ++ drop (0 + length bs) l = sets-eq bs l 0 (omega arith) in
    ap (take (length bs)) e ∙ take_at bs (drop (0 + length bs) l) (length bs) refl ∙ sym (take_all (length l) bs h)

-- of bytes that have none, the first fill the buffer
long : (l bs : List ℕ) → length l < length bs → take (length bs) (sets l 0 bs) ≡ take (length l) bs
long l bs h =
    let front : List ℕ = take (length l) bs in
    let n : length front ≡ length l = length-take-le (length l) bs (omega arith) in
    let s : sets l 0 front ≡ front ++ drop (0 + length front) l = sets-eq front l 0 (omega arith) in
    let d : drop (0 + length front) l ≡ [] = drop_of_length-le l {i = 0 + length front} (omega arith) in
    let first : sets l 0 front ≡ front = s ∙ ap (λ (r : List ℕ). front ++ r) d ∙ append-nil front in
    ap (take (length bs)) (sym (sets-full l bs (length l) (omega arith) (omega arith)) ∙ first) ∙ take_all (length bs) front (omega arith)

pub filled : (l bs : List ℕ) → take (length bs) (sets l 0 bs) ≡ take (length l) bs
filled l bs = go (leb (length bs) (length l)) refl
  where
    go : (t : Bool) → leb (length bs) (length l) ≡ t → take (length bs) (sets l 0 bs) ≡ take (length l) bs
    go true e = short l bs (leb-true (length bs) (length l) e)
    go false e = long l bs (leb-false (length bs) (length l) e)

-- the part of a buffer that `fill` tells of: the bytes of a field that have room there
pub in_room : (line : List ℕ) (index room n : ℕ) (field before after part : List ℕ) → length before ≡ room → field ≡ field_at line index → n ≡ length (bytes_of field)
    → after ≡ sets before 0 (bytes_of field) → part ≡ take n after → part ≡ bytes_in room line index
unfolding bytes_in
in_room line index room n field before after part r f m a p =
    p ∙ ap (λ (k : ℕ). take k after) m ∙ ap (take (length (bytes_of field))) a ∙ filled before (bytes_of field)
    ∙ ap (λ (k : ℕ). take k (bytes_of field)) r ∙ ap (λ (s : List ℕ). take room (bytes_of s)) f
