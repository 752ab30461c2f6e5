-- The NSEC record of the restricted kind (RFC 6762, 6.1; RFC 4034, 4.1): its rdata is the next name, which is the owner's again, and one window block.
-- Assumes nothing: these are definitions.
use Rattle.std.specs.Prelude.{ℕ, ◌+◌, ◌/◌, ◌%◌, List, [], ◌∷◌, Bool, not, ◌&&◌, length, get_or, take, drop, leb, eqb}
use Rattle.wire.specs.octets.Octets.{byte_at}
use Rattle.wire.specs.case_folding.Fold.{same_name}

-- the value of a type's bit in its byte: "the first bit is the most significant" (RFC 4034: "Each bitmap encodes the low-order 8 bits .. in network bit order")
abbrev pub bit_of : ℕ → ℕ
bit_of n = get_or (128 ∷ (64 ∷ (32 ∷ (16 ∷ (8 ∷ (4 ∷ (2 ∷ (1 ∷ [])))))))) n 0

-- A window block (a number, a length, and so many bytes of bits) says that a type is present: its bit is set. Past the block's end no bit is.
unfoldable pub names : ℕ → List ℕ → Bool
names rtype block = eqb (byte_at block (rtype / 8 + 2) / bit_of (rtype % 8) % 2) 1

-- "The Type Bit Map block number is 0. .. The Type Bit Map block length byte is a value in the range 1-32. .. The Type Bit Map data is 1-32 bytes, as indicated
-- by length byte"; and the bit of NSEC (47) itself is clear
unfoldable pub is_block : List ℕ → Bool
is_block b =
    eqb (byte_at b 0) 0
    && (leb 1 (byte_at b 1)
    && (leb (byte_at b 1) 32
    && (eqb (length b) (byte_at b 1 + 2)
    && not (names 47 b))))

-- "the Next Domain Name field contains the record's own name": rdata with its name expanded is of the restricted kind, for an owner
unfoldable pub is_nsec : List ℕ → List ℕ → Bool
is_nsec owner d = same_name owner (take (length owner) d) && is_block (drop (length owner) d)
