use Rattle.std.proofs.Common.{rules}
use mathlib.Core.Bool.{cond, not, ◌&&◌}
use Rattle.claims.specs.records.Own.{has}
use Rattle.claims.specs.answers.Answers.{asks_of, is_to_asker, asked_by}
use Rattle.claims.proofs.records.Sets.{same-each}
use Rattle.claims.proofs.answers.asked_by.Goals as goal

pub returns : goal.returns
unfolding asked_by
returns c = let a = c.args in same-each (λ o. has o (asks_of a.f).asked && cond a.unicast (is_to_asker a.progress a.f a.now o) (not (is_to_asker a.progress a.f a.now o))) _ (λ o. let h = c.of.ensures o in search rules)
