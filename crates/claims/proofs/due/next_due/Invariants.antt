use Rattle.claims.specs.steps.Steps.{steps}
use Rattle.claims.specs.due.Due.{earliest_of}
use mathlib.Core.Path.{◌≡◌}
use lib.ListN.{drop}
use Rattle.claims.proofs.due.next_due.Given as goal

abbrev pub invariant-loop-i : goal.invariant-loop-i
invariant-loop-i l = earliest_of l.progress l.initial.first steps ≡ earliest_of l.progress l.first (drop l.i steps)
