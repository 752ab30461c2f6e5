use Rattle.std.proofs.Common.{◌≡◌, drop}
use Rattle.cache.specs.entries.Tables.{slot_from}
use Rattle.cache.specs.records.Heard.{may_hold}
use Rattle.cache.specs.records.Taking.{likely_from}
use Rattle.capi_cache.proofs.likely_slot.Given as goal

abbrev pub invariant-loop-i : goal.invariant-loop-i
invariant-loop-i l = slot_from (λ j e. may_hold l.time l.h e) l.i (drop l.i l.table) ≡ likely_from l.time l.h l.table l.from
