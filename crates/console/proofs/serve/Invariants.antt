use Rattle.std.proofs.Common.{◌≡◌, ◌≤◌, length}
use Rattle.console.proofs.serve.Given as goal

abbrev pub invariant-loop : goal.invariant-loop
invariant-loop g l = (length l.input ≡ length l.initial.input) × (l.start ≤ l.seen) × (l.seen ≤ l.filled) × (l.filled ≤ length l.input)
