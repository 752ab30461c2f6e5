-- Numbers in a packet, most significant byte first (RFC 1035, 2.3.2). A packet is the list of its bytes; past its end there are zeros.
use Rattle.std.specs.Prelude.{ℕ, ◌+◌, ◌*◌, List, get_or}

-- the byte at an offset
abbrev pub byte_at : List ℕ → ℕ → ℕ
byte_at p at = get_or p at 0

-- the number whose two bytes stand at `at`
abbrev pub word16 : List ℕ → ℕ → ℕ
word16 p at = byte_at p at * 256 + byte_at p (at + 1)

-- the number whose four bytes stand at `at`
abbrev pub word32 : List ℕ → ℕ → ℕ
word32 p at = word16 p at * 65536 + word16 p (at + 2)
