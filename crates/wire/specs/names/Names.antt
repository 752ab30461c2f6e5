-- What a name in a packet is (specification, 'Reading a message'; RFC 1035, 3.1 and 4.1.4). A packet is the list of its bytes.
-- Assumes nothing: these are definitions.
use Rattle.std.specs.Prelude.{ℕ, zero, suc, ◌+◌, List, [], ◌∷◌, ◌++◌, Bool, true, false, ◌&&◌, length, take, drop, ltb, leb}
use Rattle.wire.specs.name_pieces.Pieces.{piece_at}
use Rattle.wire.specs.declared.name_pieces.Piece.{Piece}
use Rattle.wire.specs.declared.name_pieces.Piece.TheVariants.{Root, Label, Pointer, Bad}

-- What reading a name finds: its uncompressed bytes, length bytes and zero byte with them, and the offset past it in place; or that it is malformed.
pub data Reading : Type 0 where
  name : List ℕ → ℕ → Reading
  malformed : Reading

-- the reading with bytes in front of the name
abbrev pub before : List ℕ → Reading → Reading
before xs (name ys e) = name (xs ++ ys) e
before xs malformed = malformed

-- the reading with another end: a name that goes on at a pointer ends in place where the pointer ends
abbrev pub ending : ℕ → Reading → Reading
ending e (name ys _) = name ys e
ending e malformed = malformed

-- "Labels and pointers hand over to each other until the zero byte": the reading from a piece on; `rest start at used` is that of what follows.
abbrev pub read_piece : (ℕ → ℕ → ℕ → Reading) → List ℕ → ℕ → ℕ → ℕ → Piece → Reading
read_piece rest p start at used Root = name (0 ∷ []) (at + 1)
read_piece rest p start at used (Label n) = before (take (n + 1) (drop at p)) (rest start (at + 1 + n) (used + 1 + n))
read_piece rest p start at used (Pointer t) = ending (at + 2) (rest t t used)
read_piece rest p start at used Bad = malformed

-- the reading of at most so many pieces
unfoldable pub read_from : ℕ → List ℕ → ℕ → ℕ → ℕ → Reading
read_from zero p start at used = malformed
read_from (suc pieces) p start at used = read_piece (read_from pieces p) p start at used (piece_at p start at used)

-- The same with pieces enough for any name: a label takes some of the 255 bytes and a pointer leads to an earlier run, so the bound is never
-- met (`unroll` of proofs/Rest.antt says that `fromRun` reads a piece and goes on as itself).
unfoldable pub from_run : List ℕ → ℕ → ℕ → ℕ → Reading
from_run p start at used = read_from (start + 256) p start at used

-- the name at an offset of a packet
unfoldable pub name_at : List ℕ → ℕ → Reading
name_at p at = from_run p at at 0

-- Whole labels of 1..63 bytes and a zero byte, with nothing after it; `k` bytes of a label are still to come.
unfoldable pub labels_fill : ℕ → List ℕ → Bool
labels_fill k [] = false
labels_fill (suc k) (b ∷ bs) = labels_fill k bs
labels_fill zero (zero ∷ []) = true
labels_fill zero (zero ∷ (c ∷ cs)) = false
labels_fill zero (suc n ∷ bs) = ltb (suc n) 64 && labels_fill (suc n) bs

-- a list of bytes is one uncompressed name: no pointer, and no bytes past its zero byte
abbrev pub is_name : List ℕ → Bool
is_name bs = labels_fill 0 bs && leb (length bs) 255
