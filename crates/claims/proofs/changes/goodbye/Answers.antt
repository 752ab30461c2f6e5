use Rattle.std.proofs.Common.{rules}
use Rattle.claims.specs.changes.Changes.{is_parting, goodbye_of}
use Rattle.claims.proofs.records.Sets.{same-each}
use Rattle.claims.proofs.changes.goodbye.Goals as goal

pub returns : goal.returns
unfolding goodbye_of
returns c = let a = c.args in same-each (is_parting a.progress a.aaaa) _ (λ o. let h = c.of.ensures o in search rules)
