-- Rule 3 and the lookup (specification, 'The cache': "that entry gets received now and expiry now plus 1,000 times TTL; if there is none, the lowest entry
-- not live takes the record"): a record that is taken is found until its entry expires. Statements; proved in proofs/laws/Found.antt and Whole.antt.
-- Assumes nothing.
use Rattle.std.specs.Prelude.{◌≡◌, List, ◌∷◌, ◌++◌, true, ℕ, ◌+◌, ◌*◌, ◌<◌, ◌≤◌, length, Option, Some, None}
use Rattle.wire.specs.message.Message.{Record}
use Rattle.cache.specs.entries.Cache.{Cache, is_cached, equal_slot, free_slot, take_record, take_records, look_in}
use Rattle.cache.specs.laws.Slots.{entry_at}

-- the slot that a record with a TTL goes to: that of the lowest live equal entry, else the lowest that is not live
abbrev pub goes_to : ℕ → Cache → Option ℕ → Option ℕ
goes_to now c (Some i) = Some i
goes_to now c None = free_slot now c

-- a lookup of the record's name and type from slot i on gives slot i, at every time before its entry expires
abbrev pub FoundUntilExpiry : Record → ℕ → Cache → Type 0
FoundUntilExpiry x i c = (t : ℕ) → t < (entry_at c i).expiry → look_in t c.entries c.store x.owner x.rtype i ≡ Some i

-- the record stands in slot i, received now
pub record Entered (now : ℕ) (x : Record) (i : ℕ) (c : Cache) : Type 0 where
  pub received : (entry_at c i).received ≡ now
  pub expiry : (entry_at c i).expiry ≡ now + 1000 * x.ttl
  pub ttl : (entry_at c i).ttl ≡ x.ttl
  pub found : FoundUntilExpiry x i c

-- `taken-found`: so it is right after the rules for a record with a TTL that goes to slot i
abbrev pub TakenFound : Type 0
TakenFound =
    (now : ℕ) (x : Record) (c : Cache) (i : ℕ) → length x.owner ≤ 255 → length x.rdata ≤ 768 → 1024 * length c.entries ≤ length c.store
    → is_cached x ≡ true → (x.ttl ≡ 0 → ⊥) → goes_to now c (equal_slot now x c) ≡ Some i → Entered now x i (take_record now x c)

-- the entry in slot i is live, and found for the record
pub record Remains (now : ℕ) (x : Record) (i : ℕ) (c : Cache) : Type 0 where
  pub live : now < (entry_at c i).expiry
  pub found : FoundUntilExpiry x i c

-- `found_after`: so it is after the whole message; c is the cache when the record's turn comes. Later records of the message may give its entry another
-- expiry, as an equal record or a goodbye does; none takes its slot.
abbrev pub FoundAfter : Type 0
FoundAfter =
    (now : ℕ) (before : List Record) (x : Record) (later : List Record) (c₀ : Cache) (i : ℕ) (c : Cache) → c ≡ take_records now before c₀
    → length x.owner ≤ 255 → length x.rdata ≤ 768 → 1024 * length c.entries ≤ length c.store
    → is_cached x ≡ true → (x.ttl ≡ 0 → ⊥) → goes_to now c (equal_slot now x c) ≡ Some i
    → Remains now x i (take_records now (before ++ (x ∷ later)) c₀)
