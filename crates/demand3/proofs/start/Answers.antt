use Rattle.demand3.proofs.Seen.{start_seen}
use Rattle.demand3.proofs.start.Goals as goal

pub returns : goal.returns
returns c = start_seen _ _ _ _ c.start.ensures.answer
