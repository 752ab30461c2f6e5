use Rattle.std.proofs.Common.{rules}
use lib.Dec.{eqb}
use Rattle.claims.specs.records.Own.{index_of}
use Rattle.claims.specs.records.Sets.{only}
use Rattle.claims.proofs.records.Sets.{same-each}
use Rattle.claims.proofs.records.only.Goals as goal

pub returns : goal.returns
unfolding only
returns c = same-each (λ p. eqb (index_of p) (index_of c.args.o)) _ (λ p. let h = c.of.ensures p in search rules)
