use Rattle.std.proofs.Common.{rules}
use Rattle.claims.specs.answers.Held.{held_back}
use Rattle.claims.proofs.answers.hold_back.Goals as goal

pub returns : goal.returns
unfolding held_back
returns c = search rules
