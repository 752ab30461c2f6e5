use Rattle.console_browser.proofs.After.{lent_ticked}
use Rattle.console_browser.proofs.lending.tick.Goals as goal

pub returns : goal.returns
returns c = lent_ticked c.args.table c.well_formed.0.1.1.0.1.0.1 c.args.store.now _ _ c.least-n.ensures.0 c.least-m.ensures.0 _ _ c.args.out.now _ _ c.kurgashel_browse_tick.ensures
