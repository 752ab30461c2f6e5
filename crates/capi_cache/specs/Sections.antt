-- The records of a message, section by section, and what the private functions rest on. Assumes nothing: these are definitions.
use Rattle.std.specs.Prelude.{ℕ, ◌+◌, ◌*◌, ◌<◌, ◌≤◌, ◌^◌, ◌≡◌, List, true}
use Rattle.wire.specs.message.Message.{Record}
use Rattle.wire.specs.message.Layout.{record_at}
use Rattle.wire.specs.message.Readable.{readable}
use Rattle.wire.specs.declared.message.Section.{Section}
use Rattle.cache.specs.entries.Cache.{Cache, is_size}
use Rattle.cache.specs.declared.entries.Entry.{Entry}
use Rattle.cache.specs.declared.records.Heard.{Heard}
use Rattle.cache.specs.declared.records.Choice.{Choice}
use Rattle.cache.specs.declared.records.Choice.TheVariants.{Leave, Expire, Refresh, Fill, TurnAway, PassOver}
use Rattle.cache.specs.declared.Counts.{Counts}

-- the slot of a change is one of a table of n entries, and a record that fills a slot fits it
abbrev pub Changing : ℕ → Heard → Choice → Type 0
Changing n h Leave = Unit {0}
Changing n h (Expire i) = i < n
Changing n h (Refresh i) = i < n
Changing n h (Fill i) = (i < n) × ((h.at.span.len ≤ 255) × (h.len ≤ 768))
Changing n h TurnAway = Unit {0}
Changing n h PassOver = Unit {0}

-- the records of a section, as far as they are well formed
unfoldable pub records_of : List ℕ → Section → List Record
records_of p s = readable (record_at p) s.count s.at

-- a table and a store with counts, and the counts
abbrev pub cache_with : Counts → List Entry → List ℕ → Cache
cache_with c es store = record { entries = es; store = store; turned = c.turned; passed = c.passed }

abbrev pub counts_in : Cache → Counts
counts_in c = record { turned = c.turned; passed = c.passed }

-- what taking records rests on: a time that is not refused, and a table of a size with its store
pub record Taking (now n bytes : ℕ) : Type 0 where
  pub early : now ≤ 2 ^ 62
  pub size : is_size n ≡ true
  pub slots : bytes ≡ 1024 * n

-- room to count the records of a section
abbrev pub Counted : Counts → Section → Type 0
Counted c s = (c.turned + s.count ≤ 2 ^ 17) × (c.passed + s.count ≤ 2 ^ 17)
