use Rattle.std.proofs.Common.{rules}
use Rattle.claims.specs.answers.Answers.{is_due, due_to}
use Rattle.claims.proofs.records.Sets.{same-each}
use Rattle.claims.proofs.answers.due.Goals as goal

pub returns : goal.returns
unfolding due_to
returns c = let a = c.args in same-each (is_due a.progress a.q a.aaaa) _ (λ o. let h = c.of.ensures o in search rules)
