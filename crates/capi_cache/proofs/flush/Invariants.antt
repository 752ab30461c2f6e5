use Rattle.std.proofs.Common.{◌≡◌, ◌≤◌, length}
use Rattle.cache.specs.records.Taking.{flushed_in}
use Rattle.capi_cache.proofs.Mixed.{mixed}
use Rattle.capi_cache.proofs.flush.Given as goal

-- the first i entries are done
abbrev pub invariant-loop-i : goal.invariant-loop-i
invariant-loop-i l = (l.i ≤ length l.fn.table) × (l.table ≡ mixed l.i (flushed_in l.time l.store l.slot l.h l.fn.table) l.fn.table)
