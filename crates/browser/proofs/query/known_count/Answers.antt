use Rattle.std.proofs.Common.{◌∙◌}
use Rattle.browser.proofs.query.Small.{count_least}
use Rattle.browser.proofs.query.known_count.Goals as goal

pub returns : goal.returns
returns c = c.min.ensures ∙ count_least c.args.plan c.well_formed.0.1.1.0.1.0.1
