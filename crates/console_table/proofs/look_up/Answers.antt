use mathlib.Core.Path.{◌∙◌}
use Rattle.console_table.proofs.Lent.{min_least, looked}
use Rattle.console_table.proofs.look_up.Goals as goal

pub returns : goal.returns
returns c = looked c.args.table c.well_formed.0.1.1.0.1.0.1 c.args.store.now _ _ (c.min-n.ensures ∙ min_least _ _) (c.min.ensures ∙ min_least _ _) _ _ _ _ _ c.kurgashel_cache_look_up.ensures
