use Rattle.std.proofs.Common.{rules}
use Rattle.claims.specs.steps.Tick.{ended_of}
use Rattle.claims.proofs.steps.ended.Goals as goal

pub returns : goal.returns
unfolding ended_of
returns c = search rules
