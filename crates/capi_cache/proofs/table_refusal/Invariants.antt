use Rattle.std.proofs.Common.{◌≡◌, drop, length}
use Rattle.cache.specs.entries.Cache.{entries_refusal}
use Rattle.capi_cache.proofs.Scan.{rest_of}
use Rattle.capi_cache.proofs.table_refusal.Given as goal

abbrev pub invariant-loop-e : goal.invariant-loop-e
invariant-loop-e l = rest_of l.time (length l.table) l.most (drop l.e-index l.table) ≡ entries_refusal l.time l.table
