-- What the readers of a part of the packet find (specification, 'Reading a message' and 'Which places take which form'): "Rdata goes to the TXT, SRV and
-- address readers as a packet part starting in its middle." `d` is the part and `at` where it starts in the packet `p`.
-- Assumes nothing: these are definitions.
use Rattle.wire.specs.declared.names.Span.{Span}
use Rattle.wire.specs.declared.rdata.SrvAt.{SrvAt}
use Rattle.std.specs.Prelude.{ℕ, ◌+◌, ◌-◌, List, [], cond, length, ltb, leb, eqb, None, Option, Some}
use Rattle.wire.specs.octets.Octets.{byte_at, word16}
use Rattle.wire.specs.names.Names.{Reading, name, malformed, name_at}
use Rattle.wire.specs.names.Answers.{span_of}
use Rattle.wire.specs.declared.rdata.StringRead.{StringRead}
use Rattle.wire.specs.declared.rdata.StringRead.TheVariants as str

-- "A needs 4 bytes, AAAA 16": types 1 and 28
abbrev pub address_bytes : ℕ → ℕ
address_bytes rtype = cond (eqb rtype 1) 4 (cond (eqb rtype 28) 16 0)

-- an address is the part itself; no byte where the part is none
abbrev pub address_in : ℕ → List ℕ → List ℕ
address_in rtype d = cond (eqb (length d) (address_bytes rtype)) d []

-- "TXT strings fill the rdata exactly": a length byte at a place and so many bytes behind it; from the rdata's end on there is no string
unfoldable pub string_at : List ℕ → ℕ → StringRead
string_at d at =
    cond (ltb at (length d))
    (cond (leb (at + 1 + byte_at d at) (length d)) (str.Found (record { text = at + 1; len = byte_at d at; next = at + 1 + byte_at d at })) str.Malformed)
    str.End

-- a name "ending exactly at" an offset
abbrev pub name_ending : ℕ → Reading → Option Span
name_ending end (name bs e) = cond (eqb e end) (Some (span_of bs e)) None
name_ending end malformed = None

-- the name between so many bytes of a part that lies in the packet
unfoldable pub name_in : List ℕ → ℕ → List ℕ → ℕ → ℕ → Option Span
name_in p at d before behind =
    cond (leb (at + length d) (length p))
    (cond (leb (before + behind) (length d)) (name_ending (at + (length d - behind)) (name_at p (at + before))) None)
    None

-- "SRV is 6 bytes and one name": priority, weight and port, each of two bytes, and the target (RFC 2782)
abbrev pub srv_with : List ℕ → ℕ → (Option Span) → Option SrvAt
srv_with d target (Some s) = Some (record { priority = word16 d 0; weight = word16 d 2; port = word16 d 4; target = target; span = s })
srv_with d target None = None

unfoldable pub srv_in : List ℕ → ℕ → List ℕ → Option SrvAt
srv_in p at d = srv_with d (at + 6) (name_in p at d 6 0)
