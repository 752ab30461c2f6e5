use Rattle.std.proofs.Common.{rules}
use Rattle.claims.specs.steps.Tick.{tick_of}
use Rattle.claims.proofs.steps.tick.Goals as goal

pub returns : goal.returns
unfolding tick_of
returns c = search rules
