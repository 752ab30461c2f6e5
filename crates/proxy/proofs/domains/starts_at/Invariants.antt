use Prim.Native.Nat.{◌≤◌, ◌+◌, ◌-◌}
use lib.ListN.{length}
use Rattle.proxy.proofs.domains.Starts.{Came}
use Rattle.proxy.proofs.domains.starts_at.Given as goal

abbrev pub invariant-loop-i : goal.invariant-loop-i
invariant-loop-i l = (l.at ≤ length l.name) × (l.i ≤ l.at + 256) × Came l.name l.at l.i

abbrev pub decreases-loop-i : goal.decreases-loop-i
decreases-loop-i l = l.at - l.i
