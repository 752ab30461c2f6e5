use mathlib.Core.Path.{sym}
use borrow.Author.Tests.{eq-eqb, ne_eqb}
use Rattle.wire.proofs.names.or_later.Goals as goal

pub returns-then-known-eq0 : goal.returns-then-known-eq0
returns-then-known-eq0 c = sym (simp (eq-eqb _ _ c.if-known-eq0.true))

pub returns-else-known-eq0 : goal.returns-else-known-eq0
returns-else-known-eq0 c = sym (simp (ne_eqb _ _ c.if-known-eq0.false))
