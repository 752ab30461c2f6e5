use Rattle.claims.specs.steps.Steps.{steps}
use Rattle.claims.specs.steps.Tick.{walked}
use mathlib.Core.Path.{◌≡◌}
use lib.ListN.{drop}
use Rattle.claims.proofs.steps.walk_steps.Given as goal

abbrev pub invariant-loop-i : goal.invariant-loop-i
invariant-loop-i l = walked steps l.aaaa l.now l.initial.here ≡ walked (drop l.i steps) l.aaaa l.now l.here
