use Rattle.demand3.proofs.Seen.{receive-exported}
use Rattle.demand3.proofs.exported.receive.Goals as goal

pub returns : goal.returns
returns c = receive-exported _ _ _ _ _ _ _ _ c.kurgashel_receive.ensures
