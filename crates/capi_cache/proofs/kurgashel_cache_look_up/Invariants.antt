use Rattle.capi_cache.proofs.Looking.{Searched}
use Rattle.capi_cache.proofs.kurgashel_cache_look_up.Given as goal

abbrev pub invariant-loop-i : goal.invariant-loop-i
invariant-loop-i l = Searched l.time l.table l.store l.name l.rtype l.from l.i
