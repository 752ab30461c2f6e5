use Rattle.std.proofs.Common.{◌-◌, ◌≡◌, ◌<◌, true, length, get_or, drop}
use Rattle.cache.specs.entries.Entries.{blank}
use Rattle.cache.specs.entries.Tables.{slot_from}
use Rattle.cache.specs.records.Heard.{may_hold, holds_heard}
use Rattle.cache.specs.records.Taking.{equal_in}
use Rattle.capi_cache.proofs.equal_slot.Given as goal

-- at i, whose entry may hold the record where there is one, the search from i on gives what the whole one does
abbrev pub invariant-loop-i : goal.invariant-loop-i
invariant-loop-i l =
    (l.i < length l.table → may_hold l.time l.h (get_or l.table l.i blank) ≡ true)
    × (slot_from (holds_heard l.time l.store l.slot l.h) l.i (drop l.i l.table) ≡ equal_in l.time l.store l.slot l.h l.table)

abbrev pub decreases-loop-i : goal.decreases-loop-i
decreases-loop-i l = l.n - l.i
