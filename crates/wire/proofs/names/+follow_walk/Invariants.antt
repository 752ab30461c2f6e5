use Prim.Native.Nat.{◌+◌, ◌*◌, ◌-◌}
use Rattle.wire.proofs.names.+follow_walk.Given as goal

abbrev pub decreases-follow : goal.decreases-follow
decreases-follow l = 2 * (l.target + (255 - l.used)) + 2

abbrev pub decreases-walk : goal.decreases-walk
decreases-walk l = 2 * (l.start + (255 - l.used)) + 1
