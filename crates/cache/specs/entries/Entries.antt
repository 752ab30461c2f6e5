-- One entry of the cache (specification, 'The cache'). A table is the list of its entries and a store the list of its bytes, of any length.
-- Assumes nothing: these are definitions.
use Rattle.std.specs.Prelude.{ℕ, ◌+◌, ◌*◌, List, Bool, cond, not, ◌&&◌, ◌||◌, length, take, drop, ltb, leb, eqb}
use Rattle.wire.specs.case_folding.Fold.{same_name}
use Rattle.wire.specs.expansion.Equal.{same_bytes}
use Rattle.cache.specs.declared.entries.Entry.{Entry}

-- an entry of zeros
abbrev pub blank : Entry
blank = record { rtype = 0; owner = 0; rdata = 0; received = 0; expiry = 0; ttl = 0 }

-- "slot i of the store at 1,024 times i: 256 bytes owner, 768 rdata"
abbrev pub slot_of : List ℕ → ℕ → List ℕ
slot_of store i = take 1024 (drop (1024 * i) store)

abbrev pub owner_held : List ℕ → ℕ → Entry → List ℕ
owner_held store i e = take e.owner (slot_of store i)

abbrev pub rdata_held : List ℕ → ℕ → Entry → List ℕ
rdata_held store i e = take e.rdata (drop 256 (slot_of store i))

-- "Live means expiry after now."
abbrev pub is_live : ℕ → Entry → Bool
is_live now e = ltb now e.expiry

-- an "entry not live", which may take a record; whatever its slot
unfoldable pub is_free : ℕ → ℕ → Entry → Bool
is_free now i e = not (is_live now e)

-- the entry in slot i is of a name and a type
unfoldable pub is_of : List ℕ → List ℕ → ℕ → ℕ → Entry → Bool
is_of store name rtype i e = eqb e.rtype rtype && (eqb e.owner (length name) && same_name (owner_held store i e) name)

-- "live entry of that name and type"
unfoldable pub live_of : ℕ → List ℕ → List ℕ → ℕ → ℕ → Entry → Bool
live_of now store name rtype i e = is_live now e && is_of store name rtype i e

-- a "live match from a given slot on"
unfoldable pub matches : ℕ → List ℕ → List ℕ → ℕ → ℕ → ℕ → Entry → Bool
matches now store name rtype from i e = leb from i && live_of now store name rtype i e

-- "live equal entry": of the name and type of a record, and with its rdata
unfoldable pub holds : ℕ → List ℕ → List ℕ → ℕ → List ℕ → ℕ → Entry → Bool
holds now store name rtype d i e = live_of now store name rtype i e && (eqb e.rdata (length d) && same_bytes (rdata_held store i e) d)

-- the entry with another expiry: nothing else of it changes, its TTL neither
abbrev pub until : ℕ → Entry → Entry
until t e = record { rtype = e.rtype; owner = e.owner; rdata = e.rdata; received = e.received; expiry = t; ttl = e.ttl }

abbrev pub lesser : ℕ → ℕ → ℕ
lesser a b = cond (leb a b) a b

-- "expiry becomes the lesser of itself and now plus 1,000"
unfoldable pub soon : ℕ → Entry → Entry
soon now e = until (lesser e.expiry (now + 1000)) e

-- "received more than 1,000 ms ago"
abbrev pub is_old : ℕ → Entry → Bool
is_old now e = ltb (e.received + 1000) now

-- rule 1 on the entry in slot i
unfoldable pub flushed : ℕ → List ℕ → List ℕ → ℕ → ℕ → Entry → Entry
flushed now store name rtype i e = cond (live_of now store name rtype i e && is_old now e) (soon now e) e

-- rule 3 on an entry: "received now and expiry now plus 1,000 times TTL", and "the TTL as received"
abbrev pub refreshed : ℕ → ℕ → Entry → Entry
refreshed now ttl e = record { rtype = e.rtype; owner = e.owner; rdata = e.rdata; received = now; expiry = now + 1000 * ttl; ttl = ttl }

-- refusal 1: now "before any entry's receive time"
abbrev pub heard_ahead : ℕ → Entry → Bool
heard_ahead now e = ltb now e.received

-- refusal 8: "an entry with owner length over 255 or rdata length over 768"
abbrev pub too_long : Entry → Bool
too_long e = ltb 255 e.owner || ltb 768 e.rdata
