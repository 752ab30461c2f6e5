use Rattle.writer.specs.Writer.{held_in}
use Rattle.browser.proofs.query.Composing.{Going}
use Rattle.browser.proofs.query.compose.Given as goal

abbrev pub invariant-loop-j : goal.invariant-loop-j
invariant-loop-j l = Going l.store (held_in l.initial.out l.initial.places l.initial.at.end l.initial.at.count) l.len l.known l.n l.out l.places l.at l.j
