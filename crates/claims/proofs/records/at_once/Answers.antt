use Rattle.std.proofs.Common.{rules}
use mathlib.Core.Bool.{◌&&◌}
use Rattle.claims.specs.records.Own.{goes_at_once, has}
use Rattle.claims.specs.records.Sets.{at_once}
use Rattle.claims.proofs.records.Sets.{same-each}
use Rattle.claims.proofs.records.at_once.Goals as goal

pub returns : goal.returns
unfolding at_once
returns c = same-each (λ o. goes_at_once o && has o c.args.set) _ (λ o. let h = c.of.ensures o in search rules)
