use Rattle.wire.proofs.message.Sections.{Through}
use Rattle.wire.proofs.message.read_sections.Given as goal

abbrev pub invariant-loop-k : goal.invariant-loop-k
invariant-loop-k l = Through l.p l.a l.k l.b l.c l.end
