use mathlib.Core.Path.{refl, ◌∙◌}
use Rattle.console_table.proofs.Lent.{min_least, taken}
use Rattle.console_table.proofs.take_message.Goals as goal

pub returns : goal.returns
returns c = let all = taken c.args.table c.well_formed.0.1.1.0.1.0.1 c.args.store.now _ _ (c.min-n.ensures ∙ min_least _ _) (c.min-m.ensures ∙ min_least _ _) _ _ _ _ _ _ c.take_first.ensures refl in record { table = all.0; store = all.1 }
