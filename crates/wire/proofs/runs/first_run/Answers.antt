use mathlib.Core.Path.{sym}
use borrow.Author.Tests.{eq-eqb, ne_eqb}
use Rattle.wire.proofs.runs.first_run.Goals as goal

pub returns-then-front-eq0 : goal.returns-then-front-eq0
returns-then-front-eq0 c = sym (simp (eq-eqb _ _ c.if-front-eq0.true))

pub returns-else-front-eq0 : goal.returns-else-front-eq0
returns-else-front-eq0 c = sym (simp (ne_eqb _ _ c.if-front-eq0.false))
