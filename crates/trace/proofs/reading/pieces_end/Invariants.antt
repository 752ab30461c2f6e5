use mathlib.Core.Path.{◌≡◌}
use Prim.Native.Nat.{◌≤◌}
use lib.ListN.{length}
use Rattle.trace.specs.reading.Reading.{pieces_of, pieces_at}
use Rattle.trace.proofs.reading.pieces_end.Given as goal

abbrev pub invariant-loop-left : goal.invariant-loop-left
invariant-loop-left l = (l.at ≤ length l.trace) × (pieces_at (pieces_of l.len) l.trace l.first l.len ≡ pieces_at (pieces_of l.left) l.trace l.at l.left)

abbrev pub decreases-loop-left : goal.decreases-loop-left
decreases-loop-left l = l.left
