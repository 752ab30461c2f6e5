use Rattle.std.proofs.Common.{◌+◌, ◌-◌, length}
use Rattle.cache.specs.entries.Cache.{take_records}
use Rattle.capi_cache.specs.Sections.{records_of, cache_with}
use Rattle.capi_cache.proofs.Moving.{Going}
use Rattle.capi_cache.proofs.take_section.Given as goal

abbrev pub invariant-loop-k : goal.invariant-loop-k
invariant-loop-k l =
    Going l.time l.message (take_records l.time (records_of l.message l.fn.s) (cache_with l.fn.before l.fn.table l.fn.store)) (length l.fn.table) (length l.fn.store)
    (l.fn.before.turned + l.fn.s.count) (l.fn.before.passed + l.fn.s.count) l.at (l.fn.s.count - l._k) l.counts l.table l.store
