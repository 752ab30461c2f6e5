use Rattle.std.proofs.Common.{rules}
use mathlib.Core.Bool.{not, ◌&&◌}
use Rattle.claims.specs.records.Own.{has}
use Rattle.claims.specs.changes.Changes.{without}
use Rattle.claims.proofs.records.Sets.{same-each}
use Rattle.claims.proofs.changes.without.Goals as goal

pub returns : goal.returns
unfolding without
returns c = let a = c.args in same-each (λ o. has o a.set && not (has o a.gone)) _ (λ o. let h = c.of.ensures o in search rules)
