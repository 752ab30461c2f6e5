use borrow.Author.Tests.{eq-eqb}
use mathlib.Core.Path.{sym, ap, ap₂, ◌∙◌}
use lib.Dec.{eqb}
use Rattle.wire.specs.case_folding.Fold.{lower}
use Rattle.wire.proofs.case_folding.same_letter.Goals as goal

pub returns-then-x-y : goal.returns-then-x-y
returns-then-x-y c = eq-eqb _ _ c.if-x-y.true ∙ sym (eq-eqb _ _ (ap lower c.if-x-y.true))

pub returns-else-x-y : goal.returns-else-x-y
returns-else-x-y c = ap₂ eqb c.lowered.ensures c.lowered-else-x-y.ensures
