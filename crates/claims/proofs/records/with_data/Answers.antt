use Rattle.std.proofs.Common.{rules}
use mathlib.Core.Bool.{◌&&◌}
use Rattle.claims.specs.records.Own.{carries_data, has}
use Rattle.claims.specs.records.Sets.{with_data}
use Rattle.claims.proofs.records.Sets.{same-each}
use Rattle.claims.proofs.records.with_data.Goals as goal

pub returns : goal.returns
unfolding with_data
returns c = same-each (λ o. carries_data o && has o c.args.set) _ (λ o. let h = c.of.ensures o in search rules)
