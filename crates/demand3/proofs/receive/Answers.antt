use Rattle.demand3.proofs.Seen.{receive-seen}
use Rattle.demand3.proofs.receive.Goals as goal

pub returns : goal.returns
returns c = receive-seen _ _ _ _ _ _ _ c.receive.ensures
