use mathlib.Core.Path.{refl}
use Rattle.demand3.proofs.Seen.{call-exported}
use Rattle.demand3.proofs.exported.stop.Goals as goal

pub returns : goal.returns
returns c = call-exported _ _ _ _ _ _ refl c.kurgashel_stop.ensures
