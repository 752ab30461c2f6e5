use Rattle.std.proofs.Common.{◌≡◌, drop}
use Rattle.cache.specs.entries.Entries.{is_free}
use Rattle.cache.specs.entries.Tables.{slot_from}
use Rattle.cache.specs.records.Taking.{free_from}
use Rattle.capi_cache.proofs.free_slot.Given as goal

abbrev pub invariant-loop-i : goal.invariant-loop-i
invariant-loop-i l = slot_from (is_free l.time) l.i (drop l.i l.table) ≡ free_from l.time l.table l.from
