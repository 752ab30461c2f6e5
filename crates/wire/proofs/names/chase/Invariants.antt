use Rattle.wire.specs.names.Answers.{Chased}
use Rattle.wire.proofs.names.chase.Given as goal

abbrev pub invariant-loop-t : goal.invariant-loop-t
invariant-loop-t l = Chased l.p l.used l.target l.run

abbrev pub decreases-loop-t : goal.decreases-loop-t
decreases-loop-t l = l.run
