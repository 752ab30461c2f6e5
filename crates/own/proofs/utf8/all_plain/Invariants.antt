use mathlib.Core.Path.{◌≡◌}
use mathlib.Core.Bool.{◌&&◌}
use Prim.Native.Nat.{◌≤◌}
use lib.ListN.{length, drop}
use Rattle.own.specs.utf8.Utf8.{all_plain}
use Rattle.own.proofs.utf8.all_plain.Given as goal

abbrev pub invariant-loop-b : goal.invariant-loop-b
invariant-loop-b l = (l.b-index ≤ length l.s) × (all_plain l.s ≡ (l.plain && all_plain (drop l.b-index l.s)))
