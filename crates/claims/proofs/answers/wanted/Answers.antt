use Rattle.std.proofs.Common.{rules}
use Rattle.claims.specs.answers.Answers.{is_wanted, wanted_of}
use Rattle.claims.proofs.records.Sets.{same-each}
use Rattle.claims.proofs.answers.wanted.Goals as goal

pub returns : goal.returns
unfolding wanted_of
returns c = let a = c.args in same-each (is_wanted a.progress a.q a.now a.aaaa) _ (λ o. let h = c.of.ensures o in search rules)
