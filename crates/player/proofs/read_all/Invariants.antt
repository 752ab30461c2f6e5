use Rattle.std.proofs.Common.{◌≤◌, length}
use Rattle.player.proofs.read_all.Given as goal

abbrev pub invariant-loop : goal.invariant-loop
invariant-loop g l = l.filled ≤ length l.input
