-- Rules 1 and 2 (specification, 'The cache'; RFC 6762, 10.2 and 10.1). Statements; proved in proofs/laws/Flush.antt. Assumes nothing.
use Rattle.std.specs.Prelude.{◌≡◌, true, ◌⊎◌, ℕ, ◌+◌, ◌<◌, ◌≤◌, length, Some}
use Rattle.wire.specs.message.Message.{Record, top_bit}
use Rattle.cache.specs.entries.Entries.{live_of, holds}
use Rattle.cache.specs.entries.Cache.{Cache, is_cached, equal_slot, take_record}
use Rattle.cache.specs.laws.Slots.{entry_at}

-- `flush-done`, "With the top class bit": right after the rules for such a record no live entry of that name and type received more than 1,000 ms
-- before stays live beyond now plus 1,000, unless it equals that record.
abbrev pub FlushDone : Type 0
FlushDone =
    (now : ℕ) (x : Record) (c : Cache) → is_cached x ≡ true → top_bit x.class ≡ true → (i : ℕ) → i < length c.entries
    → live_of now c.store x.owner x.rtype i (entry_at c i) ≡ true → (entry_at c i).received + 1000 < now
    → ((entry_at (take_record now x c) i).expiry ≤ now + 1000) ⊎ (holds now c.store x.owner x.rtype x.rdata i (entry_at c i) ≡ true)

-- `goodbye-done`, "TTL 0": a goodbye leaves the lowest live equal entry live for at most 1,000 ms.
abbrev pub GoodbyeDone : Type 0
GoodbyeDone =
    (now : ℕ) (x : Record) (c : Cache) → is_cached x ≡ true → x.ttl ≡ 0 → length x.rdata ≤ 768 → (i : ℕ) → equal_slot now x c ≡ Some i
    → (entry_at (take_record now x c) i).expiry ≤ now + 1000
