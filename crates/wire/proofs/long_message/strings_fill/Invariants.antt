use mathlib.Core.Path.{◌≡◌}
use Prim.Native.Nat.{◌≤◌, ◌-◌}
use lib.ListN.{length, drop}
use Rattle.wire.specs.rdata.Rdata.{strings_fill}
use Rattle.wire.proofs.long_message.strings_fill.Given as goal

abbrev pub invariant-loop-s : goal.invariant-loop-s
invariant-loop-s l = (l.at ≤ length l.d) × (strings_fill 0 l.d ≡ strings_fill 0 (drop l.at l.d))

abbrev pub decreases-loop-s : goal.decreases-loop-s
decreases-loop-s l = length l.d - l.at
