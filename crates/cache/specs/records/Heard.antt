-- One record of a message against the entries (specification, 'The cache'), as the code finds it: its owner and rdata lie in the slot that it would fill. Of a
-- record that is whole these are the rules of `entries` on what it shows (proofs/records). Assumes nothing: these are definitions.
use Rattle.std.specs.Prelude.{ℕ, List, Bool, true, cond, not, ◌&&◌, length, take, drop, ltb, leb, eqb, None, Option, Some}
use Rattle.wire.specs.case_folding.Fold.{same_name}
use Rattle.wire.specs.rdata.Rdata.{rdata_at, form_at}
use Rattle.wire.specs.rdata.Answers.{data_of}
use Rattle.wire.specs.expansion.Equal.{same_bytes}
use Rattle.wire.specs.message.Message.{top_bit}
use Rattle.wire.specs.message.Readable.{whole_read}
use Rattle.wire.specs.declared.message.RecordAt.{RecordAt}
use Rattle.cache.specs.entries.Entries.{owner_held, rdata_held, is_live, is_old, soon}
use Rattle.cache.specs.entries.Cache.{cached_as}
use Rattle.cache.specs.declared.entries.Entry.{Entry}
use Rattle.cache.specs.declared.records.Heard.{Heard}
use Rattle.cache.specs.declared.records.Choice.{Choice}
use Rattle.cache.specs.declared.records.Choice.TheVariants.{Leave, Expire, Refresh, Fill, TurnAway, PassOver}

-- a record as it lies that is whole, and that at an offset
abbrev pub heard_as : List ℕ → RecordAt → Heard
heard_as p f = record { whole = true; at = f; len = length (data_of (rdata_at p f)); named = (form_at p f).named }

abbrev pub heard_of : List ℕ → Option RecordAt → Option Heard
heard_of p (Some f) = Some (heard_as p f)
heard_of p None = None

unfoldable pub heard_at : List ℕ → ℕ → Option Heard
heard_at p at = heard_of p (whole_read p at)

-- the rules are for it; rule 1 is, with the top class bit; rules 2 and 3 are, where its rdata fits a slot
unfoldable pub is_taken : Heard → Bool
is_taken h = h.whole && cached_as h.at.class h.at.rtype h.named

unfoldable pub is_flushing : Heard → Bool
is_flushing h = top_bit h.at.class && is_taken h

unfoldable pub is_sought : Heard → Bool
is_sought h = leb h.len 768 && is_taken h

-- its owner and its rdata, in the slot that it would fill
abbrev pub owner_in : List ℕ → Heard → List ℕ
owner_in slot h = take h.at.span.len slot

abbrev pub rdata_in : List ℕ → Heard → List ℕ
rdata_in slot h = take h.len (drop 256 slot)

-- the entry in slot i is of its name and type
unfoldable pub is_of_heard : List ℕ → List ℕ → Heard → ℕ → Entry → Bool
is_of_heard store slot h i e = eqb e.rtype h.at.rtype && (eqb e.owner h.at.span.len && same_name (owner_held store i e) (owner_in slot h))

-- it is live too; and holds its rdata
unfoldable pub live_heard : ℕ → List ℕ → List ℕ → Heard → ℕ → Entry → Bool
live_heard now store slot h i e = is_live now e && is_of_heard store slot h i e

unfoldable pub holds_heard : ℕ → List ℕ → List ℕ → Heard → ℕ → Entry → Bool
holds_heard now store slot h i e = live_heard now store slot h i e && (eqb e.rdata h.len && same_bytes (rdata_held store i e) (rdata_in slot h))

-- the entry is live, and agrees in its type and in the length of its owner
unfoldable pub is_alike : ℕ → Heard → Entry → Bool
is_alike now h e = is_live now e && (eqb e.rtype h.at.rtype && eqb e.owner h.at.span.len)

-- its rdata is as long too
unfoldable pub may_hold : ℕ → Heard → Entry → Bool
may_hold now h e = is_alike now h e && eqb e.rdata h.len

-- its bytes are the record's
unfoldable pub has_bytes : List ℕ → List ℕ → Heard → ℕ → Entry → Bool
has_bytes store slot h i e = same_bytes (rdata_held store i e) (rdata_in slot h) && same_name (owner_held store i e) (owner_in slot h)

-- rule 1 on the entry in slot i
unfoldable pub flushed_heard : ℕ → List ℕ → List ℕ → Heard → ℕ → Entry → Entry
flushed_heard now store slot h i e = cond (is_flushing h && (live_heard now store slot h i e && is_old now e)) (soon now e) e

-- the slot at which a rule begins in a table of n entries
abbrev pub first_slot : Bool → ℕ → ℕ
first_slot begins n = cond begins 0 n

-- an entry that is not live is sought: there is no equal one, and the TTL is not 0
unfoldable pub is_filling : Heard → ℕ → ℕ → Bool
is_filling h n equal = is_sought h && (leb n equal && not (eqb h.at.ttl 0))

-- what follows from both searches
abbrev pub chosen_among : Bool → ℕ → ℕ → ℕ → Choice
chosen_among ends n equal free = cond (ltb equal n) (cond ends (Expire equal) (Refresh equal)) (cond ends Leave (cond (ltb free n) (Fill free) TurnAway))

unfoldable pub chosen_of : Heard → ℕ → ℕ → ℕ → Choice
chosen_of h n equal free = cond (is_taken h) (cond (ltb 768 h.len) PassOver (chosen_among (eqb h.at.ttl 0) n equal free)) Leave
