use Rattle.std.proofs.Common.{rules}
use mathlib.Core.Bool.{◌&&◌}
use Rattle.claims.specs.records.Own.{claim_for, same_claim, present, carries_data}
use Rattle.claims.specs.records.Sets.{records_of}
use Rattle.claims.proofs.records.Sets.{same-each}
use Rattle.claims.proofs.records.records_of.Goals as goal

pub returns : goal.returns
unfolding records_of
returns c = let a = c.args in same-each (λ o. same_claim (claim_for o) a.claim && (carries_data o && present o a.aaaa)) _ (λ o. let h = c.of.ensures o in search rules)
