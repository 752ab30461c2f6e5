use Rattle.demand3.proofs.Seen.{tick-seen}
use Rattle.demand3.proofs.tick.Goals as goal

pub returns : goal.returns
returns c = tick-seen _ _ _ _ _ c.tick.ensures
