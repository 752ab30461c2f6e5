use mathlib.Core.Path.{◌≡◌}
use Prim.Native.Nat.{◌≤◌}
use lib.ListN.{length, drop}
use Rattle.wire.specs.case_folding.Fold.{same_name}
use Rattle.wire.proofs.case_folding.same_name.Given as goal

abbrev pub invariant-loop-i : goal.invariant-loop-i
invariant-loop-i l = (l.i ≤ length l.a) × (same_name l.a l.b ≡ same_name (drop l.i l.a) (drop l.i l.b))
