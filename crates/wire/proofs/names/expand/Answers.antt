use Rattle.wire.proofs.names.Whole.{copied_fits, copied_long, whole-found, whole-bad}
use Rattle.wire.proofs.names.expand.Goals as goal

pub slice_bounds-bytes-end : goal.slice_bounds-bytes-end
slice_bounds-bytes-end c = copied_fits _ _ _ _ c.walk.ensures _ c.in-Some.is

pub slice_bounds-plain_span-end : goal.slice_bounds-plain_span-end
slice_bounds-plain_span-end c = copied_long _ _ _ _ c.walk.ensures _ c.in-Some.is

pub returns-in-Some : goal.returns-in-Some
returns-in-Some c = whole-found _ _ _ _ c.walk.ensures _ c.in-Some.is _ _ c.plain_span-plain.ensures

pub returns-in-None : goal.returns-in-None
returns-in-None c = whole-bad _ _ _ _ c.walk.ensures c.in-None.is
