use Rattle.demand3.proofs.Seen.{start-exported}
use Rattle.demand3.proofs.exported.start.Goals as goal

pub returns : goal.returns
returns c = start-exported _ _ _ _ _ _ c.kurgashel_start.ensures
