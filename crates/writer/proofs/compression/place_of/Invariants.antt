use Prim.Native.Nat.{◌≤◌}
use mathlib.Core.Path.{◌≡◌}
use lib.ListN.{length, drop}
use Rattle.writer.specs.compression.Compression.{place_of}
use Rattle.writer.proofs.compression.place_of.Given as goal

abbrev pub invariant-loop-o : goal.invariant-loop-o
invariant-loop-o l = (l.o-index ≤ length l.places) × (place_of l.p l.s l.places ≡ place_of l.p l.s (drop l.o-index l.places))
