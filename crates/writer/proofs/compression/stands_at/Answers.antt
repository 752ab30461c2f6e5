use Rattle.writer.proofs.compression.Search.{stands_bad, stands_found, front_long}
use Rattle.writer.proofs.compression.stands_at.Goals as goal

pub slice_bounds-same_bytes-end : goal.slice_bounds-same_bytes-end
slice_bounds-same_bytes-end c = front_long c.args.p.now
    c.args.at _ c.expand-e.ensures _
    c.in-Some.is

pub returns : goal.returns
returns c = stands_found _ _ _ c.expand-e.ensures _ c.in-Some.is _ _
    c.same_bytes.ensures

pub returns-in_default : goal.returns-in_default
returns-in_default c = stands_bad _ _ _ c.expand-e.ensures _ c.in_default.is
