use mathlib.Core.Path.{◌≡◌}
use mathlib.Core.List.{List}
use Prim.Native.Nat.{ℕ, ◌-◌}
use lib.ListN.{length}
use Rattle.wire.specs.names.Names.{name, name_at}
use Rattle.facts.proofs.Steps.{Rests}
use Rattle.facts.proofs.past_labels.Given as goal

abbrev pub invariant-loop-here : goal.invariant-loop-here
invariant-loop-here l = (bs : List ℕ) (e : ℕ) → name_at l.p l.at ≡ name bs e → Rests l.p l.at l.here e

abbrev pub decreases-loop-here : goal.decreases-loop-here
decreases-loop-here l = length l.p - l.here
