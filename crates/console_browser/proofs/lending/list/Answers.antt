use Rattle.console_browser.proofs.After.{lent_listed}
use Rattle.console_browser.proofs.lending.list.Goals as goal

pub returns : goal.returns
returns c = lent_listed c.args.table c.well_formed.0.1.1.0.1.0.1 c.args.store.now _ _ c.least-n.ensures.0 c.least-m.ensures.0 _ _ _ _ c.kurgashel_browse_list.ensures
