use mathlib.Core.Path.{◌≡◌}
use Prim.Native.Nat.{◌<◌, ◌≤◌, ◌+◌, ◌-◌}
use Rattle.wire.specs.names.Names.{name_at, from_run}
use Rattle.wire.specs.names.Answers.{found_of, seen_of}
use Rattle.wire.proofs.names.name_at.Given as goal

abbrev pub invariant-loop-n : goal.invariant-loop-n
invariant-loop-n l = (l.used < 255) × (l.labels ≤ l.used) × (found_of (name_at l.p l.at) ≡ seen_of l.used l.end l.labels l.first (from_run l.p l.start l.here l.used))

abbrev pub decreases-loop-n : goal.decreases-loop-n
decreases-loop-n l = l.start + (255 - l.used)
