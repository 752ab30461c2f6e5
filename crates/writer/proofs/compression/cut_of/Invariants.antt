use Prim.Native.Nat.{◌≤◌, ◌-◌}
use mathlib.Core.Path.{◌≡◌}
use lib.ListN.{length, drop}
use Rattle.writer.specs.compression.Compression.{cut_of}
use Rattle.writer.proofs.compression.Search.{further}
use Rattle.writer.proofs.compression.cut_of.Given as goal

abbrev pub invariant-loop-i : goal.invariant-loop-i
invariant-loop-i l = (l.i ≤ length l.name) × (cut_of l.p l.places l.name ≡ further l.i (cut_of l.p l.places (drop l.i l.name)))

abbrev pub decreases-loop-i : goal.decreases-loop-i
decreases-loop-i l = length l.name - l.i
