-- The two counts (specification, 'The cache': "If all are live it is counted as turned away. Rdata over 768 bytes is counted as passed over after rule 1,
-- TTL 0 too."): exactly when a record is counted. Statements; proved in proofs/laws/Counts.antt. Assumes nothing.
use Rattle.std.specs.Prelude.{◌≡◌, List, [], ◌∷◌, Bool, false, cond, not, ◌&&◌, ◌||◌, ℕ, suc, ◌+◌, length, ltb, eqb}
use Rattle.wire.specs.message.Message.{Record}
use Rattle.cache.specs.entries.Entries.{is_free, holds}
use Rattle.cache.specs.entries.Cache.{Cache, is_cached, take_record}
use Rattle.cache.specs.declared.entries.Entry.{Entry}

-- an entry of the table passes a test of it and its slot; the list's first entry is in slot i
unfoldable pub any_from : (ℕ → Entry → Bool) → ℕ → List Entry → Bool
any_from test i [] = false
any_from test i (e ∷ es) = test i e || any_from test (suc i) es

-- some live entry equals the record; all entries are live
abbrev pub has_equal : ℕ → Record → Cache → Bool
has_equal now x c = any_from (holds now c.store x.owner x.rtype x.rdata) 0 c.entries

abbrev pub all_live : ℕ → Cache → Bool
all_live now c = not (any_from (is_free now) 0 c.entries)

-- a record is one to be turned away: its TTL is not 0, its rdata is at most 768 bytes, no live entry equals it and all entries are live
abbrev pub is_turned_away : ℕ → Record → Cache → Bool
is_turned_away now x c = is_cached x && (not (ltb 768 (length x.rdata)) && (not (eqb x.ttl 0) && (not (has_equal now x c) && all_live now c)))

-- a record is one to be passed over: its rdata is over 768 bytes, whatever its TTL
abbrev pub is_passed_over : Record → Bool
is_passed_over x = is_cached x && ltb 768 (length x.rdata)

-- 1 where a test holds
abbrev pub one : Bool → ℕ
one b = cond b 1 0

-- `turned-exactly`: the count of those turned away rises by one for such a record, and for no other
abbrev pub TurnedExactly : Type 0
TurnedExactly = (now : ℕ) (x : Record) (c : Cache) → (take_record now x c).turned ≡ c.turned + one (is_turned_away now x c)

-- `passed-exactly`: and so does the count of those passed over
abbrev pub PassedExactly : Type 0
PassedExactly = (now : ℕ) (x : Record) (c : Cache) → (take_record now x c).passed ≡ c.passed + one (is_passed_over x)
