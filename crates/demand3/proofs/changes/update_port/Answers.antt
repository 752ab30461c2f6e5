use Rattle.demand3.proofs.Seen.{update-seen}
use Rattle.demand3.proofs.changes.update_port.Goals as goal

pub returns : goal.returns
returns c = update-seen _ _ _ _ _ c.update_port.ensures
