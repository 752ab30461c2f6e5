use mathlib.Core.Path.{◌≡◌}
use lib.ListN.{length}
use Rattle.facts.specs.chains.Chains.{Ends}
use Rattle.facts.proofs.chains.note_ends.Given as goal

abbrev pub invariant-loop-at : goal.invariant-loop-at
invariant-loop-at l = (length l.ends ≡ 8972) × Ends l.p l.ends
