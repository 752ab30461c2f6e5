-- Rule 3 again (specification, 'The cache': "the lowest entry not live takes the record"): no live entry is ever evicted. Statements; proved in
-- proofs/laws/Evict.antt. Assumes nothing.
use Rattle.std.specs.Prelude.{◌≡◌, List, true, ℕ, ◌<◌, length, get_or}
use Rattle.cache.specs.entries.Entries.{blank, slot_of, is_live}
use Rattle.cache.specs.entries.Cache.{Cache, at_start, take_in}
use Rattle.cache.specs.declared.entries.Entry.{Entry}
use Rattle.cache.specs.laws.Slots.{entry_at}

-- from the cache c to the cache d the entry of slot i stays: it is live still and for the same record, by type, lengths and every byte of its slot
pub record Stays (now : ℕ) (c d : Cache) (i : ℕ) : Type 0 where
  pub rtype : (entry_at d i).rtype ≡ (entry_at c i).rtype
  pub owner : (entry_at d i).owner ≡ (entry_at c i).owner
  pub rdata : (entry_at d i).rdata ≡ (entry_at c i).rdata
  pub bytes : slot_of d.store i ≡ slot_of c.store i
  pub live : is_live now (entry_at d i) ≡ true

-- `never-evicted`: after the call `take`, whatever its message and whether or not it is refused, each entry that was live stays
abbrev pub NeverEvicted : Type 0
NeverEvicted =
    (now : ℕ) (es : List Entry) (store : List ℕ) (port : ℕ) (p : List ℕ) (i : ℕ) → i < length es → is_live now (get_or es i blank) ≡ true
    → Stays now (at_start es store) (take_in now es store port p) i
