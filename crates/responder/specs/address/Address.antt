-- The address that a packet came from, by its bytes. Assumes nothing: these are definitions.
use Rattle.std.specs.Prelude.{ℕ, ◌+◌, ◌*◌, cond, List, eqb, length}
use Rattle.wire.specs.octets.Octets.{word32}
use Rattle.claims.specs.declared.holds.Address.{Address}

-- eight bytes as a number
abbrev pub eight_at : List ℕ → ℕ → ℕ
eight_at b at = word32 b at * 4294967296 + word32 b (at + 4)

-- "16 bytes; an IPv4 address as ::ffff:a.b.c.d"; bytes of another number are those of no address
unfoldable pub address_of : List ℕ → Address
address_of b =
    cond (eqb (length b) 16) (record { high = eight_at b 0; low = eight_at b 8 })
    (cond (eqb (length b) 4) (record { high = 0; low = 0xffff * 4294967296 + word32 b 0 }) (record { high = 0; low = 0 }))
