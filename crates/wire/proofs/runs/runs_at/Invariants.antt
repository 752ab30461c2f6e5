use mathlib.Core.Path.{◌≡◌}
use Prim.Native.Nat.{◌<◌, ◌≤◌, ◌+◌, ◌-◌}
use Rattle.wire.specs.names.Names.{name_at, from_run}
use Rattle.wire.specs.names.Answers.{found_of, seen_of}
use Rattle.wire.proofs.runs.InRuns.{Kept}
use Rattle.wire.proofs.runs.runs_at.Given as goal

abbrev pub invariant-loop-past : goal.invariant-loop-past
invariant-loop-past l = (l.used < 255) × (l.labels ≤ l.used) × (l.front ≤ l.last) × (l.last ≤ l.used) × (l.here ≡ l.start + (l.used - l.last)) × (l.front ≡ 0 → l.last ≡ 0)
    × (found_of (name_at l.p l.at) ≡ seen_of l.used l.end l.labels l.first (from_run l.p l.start l.here l.used))
    × Kept l.p (name_at l.p l.at) l.from l.front l.start l.last l.used (from_run l.p l.start l.here l.used)

abbrev pub decreases-loop-past : goal.decreases-loop-past
decreases-loop-past l = l.start + (255 - l.used)
