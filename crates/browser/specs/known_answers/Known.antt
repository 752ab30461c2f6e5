-- Known answers (RFC 6762, 7.1): a query "lists the name's live PTR entries with more than half their TTL left, with the TTL left (at most that received) in
-- whole seconds rounded down, spelled as stored, in entry order". Assumes nothing: these are definitions.
use Rattle.std.specs.Prelude.{ℕ, suc, ◌-◌, ◌*◌, ◌/◌, List, [], ◌∷◌, map, Bool, cond, ◌&&◌, ltb, get_or, drop, Option, Some, None}
use Rattle.wire.specs.message.Message.{Record, record_of}
use Rattle.cache.specs.declared.entries.Entry.{Entry}
use Rattle.cache.specs.entries.Entries.{blank, owner_held, rdata_held, lesser}
use Rattle.browser.specs.declared.Browser.{Browser}
use Rattle.browser.specs.list.Listing.{is_shown}

-- "more than half their TTL left": twice what is left, in ms, is above the TTL
abbrev pub over_half : ℕ → Entry → Bool
over_half now e = ltb (1000 * e.ttl) (2 * (e.expiry - now))

-- the entry in slot i is a known answer
unfoldable pub is_known : ℕ → List ℕ → Browser → ℕ → Entry → Bool
is_known now store b i e = is_shown now store b i e && over_half now e

-- "the TTL left (at most that received) in whole seconds rounded down"; a table that is lent may have any number, and a TTL on the wire has 31 bits
unfoldable pub shown_ttl : ℕ → Entry → ℕ
shown_ttl now e = lesser (lesser e.ttl ((e.expiry - now) / 1000)) 2147483647

-- its record: owner and target as stored, class 1
unfoldable pub answer_of : ℕ → List ℕ → ℕ → Entry → Record
answer_of now store i e = record_of (owner_held store i e) 12 1 (shown_ttl now e) (rdata_held store i e)

-- the slots of the known answers among some entries, the first of which is in slot i
unfoldable pub known_in : ℕ → List ℕ → Browser → ℕ → List Entry → List ℕ
known_in now store b i [] = []
known_in now store b i (e ∷ es) = cond (is_known now store b i e) (i ∷ known_in now store b (suc i) es) (known_in now store b (suc i) es)

-- those of the table from a slot on, "in entry order"
unfoldable pub known_from : ℕ → List ℕ → Browser → List Entry → ℕ → List ℕ
known_from now store b es from = known_in now store b from (drop from es)

-- and those that a truncated query still owes: "the rest from that entry on as it then is"
abbrev pub known_owed : ℕ → List ℕ → Browser → List Entry → Option ℕ → List ℕ
known_owed now store b es (Some i) = known_from now store b es i
known_owed now store b es None = []

-- the records of some slots
abbrev pub answers_of : ℕ → List ℕ → List Entry → List ℕ → List Record
answers_of now store es slots = map (λ (i : ℕ). answer_of now store i (get_or es i blank)) slots
