use Rattle.demand3.proofs.Seen.{stop-seen}
use Rattle.demand3.proofs.changes.stop.Goals as goal

pub returns : goal.returns
returns c = stop-seen _ _ _ _ _ c.stop.ensures
