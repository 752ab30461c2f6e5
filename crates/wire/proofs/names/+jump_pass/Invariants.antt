use Prim.Native.Nat.{◌+◌, ◌*◌, ◌-◌}
use Rattle.wire.proofs.names.+jump_pass.Given as goal

abbrev pub decreases-jump : goal.decreases-jump
decreases-jump l = 2 * (l.target + (255 - l.used)) + 2

abbrev pub decreases-pass : goal.decreases-pass
decreases-pass l = 2 * (l.start + (255 - l.used)) + 1
