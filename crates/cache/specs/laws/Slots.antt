-- The slots of the store (specification, 'The cache': "256 bytes owner, 768 rdata, names expanded, unused bytes 0"). Statements; proved in
-- proofs/laws/Slots.antt. Assumes nothing.
use Rattle.std.specs.Prelude.{◌≡◌, ℕ, ◌+◌, ◌-◌, ◌≤◌, length, get_or, take, drop, replicate}
use Rattle.wire.specs.message.Message.{Record}
use Rattle.cache.specs.entries.Entries.{blank}
use Rattle.cache.specs.entries.Cache.{Cache, slot_for}
use Rattle.cache.specs.declared.entries.Entry.{Entry}

-- the entry in a slot
abbrev pub entry_at : Cache → ℕ → Entry
entry_at c i = get_or c.entries i blank

-- `owner-back`, `rdata-back`: in the slot that is written for a record stand its owner and its rdata
abbrev pub OwnerBack : Type 0
OwnerBack = (x : Record) → length x.owner ≤ 256 → length x.rdata ≤ 768 → take (length x.owner) (slot_for x) ≡ x.owner

abbrev pub RdataBack : Type 0
RdataBack = (x : Record) → length x.owner ≤ 256 → length x.rdata ≤ 768 → take (length x.rdata) (drop 256 (slot_for x)) ≡ x.rdata

-- `unused-owner`, `unused-rdata`: the bytes behind each are 0
abbrev pub UnusedOwner : Type 0
UnusedOwner =
    (x : Record) → length x.owner ≤ 256 → length x.rdata ≤ 768
    → take (256 - length x.owner) (drop (length x.owner) (slot_for x)) ≡ replicate (256 - length x.owner) 0

abbrev pub UnusedRdata : Type 0
UnusedRdata =
    (x : Record) → length x.owner ≤ 256 → length x.rdata ≤ 768
    → take (768 - length x.rdata) (drop (256 + length x.rdata) (slot_for x)) ≡ replicate (768 - length x.rdata) 0
