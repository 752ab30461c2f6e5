use Rattle.std.proofs.Common.{rules}
use Rattle.claims.specs.records.Own.{has}
use Rattle.claims.specs.Time.{sent_of}
use Rattle.claims.specs.steps.Steps.{unsent, unsent_of}
use Rattle.claims.proofs.records.Sets.{same-each}
use Rattle.claims.proofs.steps.unsent_of.Goals as goal

pub returns : goal.returns
unfolding unsent_of
returns c = let a = c.args in same-each (λ o. unsent (has o a.set) (sent_of o a.sent) a.now) _ (λ o. let h = c.of.ensures o in search rules)
