use mathlib.Core.Path.{◌≡◌}
use Prim.Native.Nat.{◌≤◌}
use lib.ListN.{length, drop}
use Rattle.wire.specs.expansion.Equal.{same_bytes}
use Rattle.wire.proofs.expansion.same_bytes.Given as goal

abbrev pub invariant-loop-i : goal.invariant-loop-i
invariant-loop-i l = (length l.a ≡ length l.b) × (l.i ≤ length l.a) × (same_bytes l.a l.b ≡ same_bytes (drop l.i l.a) (drop l.i l.b))
