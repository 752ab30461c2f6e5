use mathlib.Core.Path.{◌≡◌}
use Prim.Native.Nat.{◌≤◌, ◌<◌, ◌+◌, ◌-◌}
use lib.ListN.{length, drop}
use Rattle.wire.specs.names.Names.{from_run}
use Rattle.wire.specs.names.Answers.{same_as, name_is}
use Rattle.wire.proofs.names.name_is.Given as goal

abbrev pub invariant-loop-end : goal.invariant-loop-end
invariant-loop-end l = (l.used < 255) × (l.used ≤ length l.other) × (name_is l.p l.at l.other ≡ same_as (drop l.used l.other) (from_run l.p l.start l.here l.used))

abbrev pub decreases-loop-end : goal.decreases-loop-end
decreases-loop-end l = l.start + (255 - l.used)
