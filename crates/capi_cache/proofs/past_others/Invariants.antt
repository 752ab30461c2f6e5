use Rattle.std.proofs.Common.{◌-◌}
use Rattle.capi_cache.specs.Types.{Passed}
use Rattle.capi_cache.proofs.past_others.Given as goal

abbrev pub invariant-loop-h : goal.invariant-loop-h
invariant-loop-h l = Passed l.h.at.rtype l.table l.from l.i

abbrev pub decreases-loop-h : goal.decreases-loop-h
decreases-loop-h l = l.n - l.i
