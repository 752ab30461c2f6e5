use Prim.Native.Nat.{◌<◌, ◌≤◌, ◌+◌, ◌-◌}
use Rattle.wire.specs.long_message.Noted.{Noted}
use Rattle.wire.proofs.long_message.Notes.{Rest}
use Rattle.wire.proofs.long_message.note.Given as goal

abbrev pub invariant-loop-n : goal.invariant-loop-n
invariant-loop-n l = (l.used < 255) × (l.start ≤ l.here) × Noted l.p l.noted × Rest l.p l.start l.here l.used l.len

abbrev pub decreases-loop-n : goal.decreases-loop-n
decreases-loop-n l = l.start + (255 - l.used)
