use mathlib.Core.Path.{◌≡◌}
use Prim.Native.Nat.{◌<◌, ◌≤◌, ◌+◌, ◌-◌}
use Rattle.wire.specs.names.Names.{name_at, from_run}
use Rattle.wire.specs.long_message.Noted.{Noted}
use Rattle.wire.proofs.long_message.Reached.{reached}
use Rattle.wire.proofs.long_message.past_name.Given as goal

abbrev pub invariant-loop-noted : goal.invariant-loop-noted
invariant-loop-noted l = (l.used < 255) × (l.start ≤ l.here) × Noted l.p l.noted × (reached 0 0 (name_at l.p l.at) ≡ reached l.used l.end (from_run l.p l.start l.here l.used))

abbrev pub decreases-loop-noted : goal.decreases-loop-noted
decreases-loop-noted l = l.start + (255 - l.used)
