-- What stands at one place of a name in a packet (specification, 'Reading a message'; RFC 1035, 3.1 and 4.1.4). A packet is the list of its bytes.
-- Assumes nothing: these are definitions.
use Rattle.std.specs.Prelude.{ℕ, ◌+◌, ◌*◌, ◌%◌, List, Bool, cond, ◌&&◌, length, get_or, ltb, leb, eqb}
use Rattle.wire.specs.declared.name_pieces.Piece.{Piece}
use Rattle.wire.specs.declared.name_pieces.Piece.TheVariants.{Root, Label, Pointer, Bad}

-- the offset that a pointer at `at` names: 14 bits
abbrev pub target : List ℕ → ℕ → ℕ
target p at = get_or p at 0 % 64 * 256 + get_or p (at + 1) 0

-- "labels of 1..63 bytes and a zero byte, at most 255 bytes uncompressed": the label ends in the packet and leaves room for the zero byte
abbrev pub good_label : List ℕ → ℕ → ℕ → Bool
good_label p at used = leb (at + 1 + get_or p at 0) (length p) && ltb (used + 1 + get_or p at 0) 255

-- "its target must be at least 12 and lie before the start of the run of labels that led to it"; both bytes of the pointer are in the packet
abbrev pub good_pointer : List ℕ → ℕ → ℕ → Bool
good_pointer p start at = ltb (at + 1) (length p) && leb 12 (target p at) && ltb (target p at) start

-- The piece at `at`, in the run of labels that begins at `start`, of a name of which `used` bytes have been read: "a byte 0x40..0xBF where a
-- label starts, an overrun, or a bad pointer is malformed".
unfoldable pub piece_at : List ℕ → ℕ → ℕ → ℕ → Piece
piece_at p start at used =
    cond (ltb at (length p))
    (cond (eqb (get_or p at 0) 0) Root
    (cond (ltb (get_or p at 0) 64) (cond (good_label p at used) (Label (get_or p at 0)) Bad)
    (cond (ltb (get_or p at 0) 192) Bad
    (cond (good_pointer p start at) (Pointer (target p at)) Bad))))
    Bad
