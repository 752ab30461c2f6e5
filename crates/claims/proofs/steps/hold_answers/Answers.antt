use Rattle.std.proofs.Common.{rules}
use Rattle.claims.specs.steps.Tick.{hold_answers}
use Rattle.claims.proofs.steps.hold_answers.Goals as goal

pub returns : goal.returns
unfolding hold_answers
returns c = search rules
