use mathlib.Core.Path.{◌≡◌}
use mathlib.Core.Bool.{true}
use lib.ListN.{drop}
use Rattle.own.specs.records.Setups.{hyphens_apart}
use Rattle.own.proofs.setups.hyphens_apart.Given as goal

abbrev pub invariant-loop-b : goal.invariant-loop-b
invariant-loop-b l = hyphens_apart true l.s ≡ hyphens_apart l.barred (drop l.b-index l.s)
