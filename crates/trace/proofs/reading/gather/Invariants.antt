use mathlib.Core.Path.{◌≡◌}
use Prim.Native.Nat.{◌+◌, ◌-◌, ◌*◌, ◌≤◌}
use lib.ListN.{length}
use lib.Seq.{sets}
use Rattle.trace.specs.reading.Reading.{pieces_of}
use Rattle.trace.specs.reading.Events.{data_from}
use Rattle.trace.proofs.reading.gather.Given as goal

abbrev pub invariant-loop-left : goal.invariant-loop-left
invariant-loop-left l = (l.at + 17 * pieces_of l.left ≤ length l.trace) × (l.left ≤ l.len) × (length l.out ≡ length l.initial.out) × (sets l.initial.out 0 (data_from (pieces_of l.len) l.trace l.first l.len) ≡ sets l.out (l.len - l.left) (data_from (pieces_of l.left) l.trace l.at l.left))

abbrev pub decreases-loop-left : goal.decreases-loop-left
decreases-loop-left l = l.left
