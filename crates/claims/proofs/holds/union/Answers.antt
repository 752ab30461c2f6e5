use Rattle.std.proofs.Common.{rules}
use mathlib.Core.Bool.{◌||◌}
use Rattle.claims.specs.records.Own.{has}
use Rattle.claims.specs.holds.Holds.{union}
use Rattle.claims.proofs.records.Sets.{same-each}
use Rattle.claims.proofs.holds.union.Goals as goal

pub returns : goal.returns
unfolding union
returns c = let a = c.args in same-each (λ o. has o a.a || has o a.b) _ (λ o. let h = c.of.ensures o in search rules)
