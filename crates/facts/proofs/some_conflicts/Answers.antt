use Rattle.std.proofs.Common.{rules}
use Rattle.facts.specs.Facts.{conflicts}
use Rattle.facts.proofs.some_conflicts.Goals as goal

pub some_record-requires : goal.some_record-requires
some_record-requires c = record { whole = c.requires.whole; callable = λ f found. search rules }

pub returns : goal.returns
returns c = let a = c.args in c.some_record.ensures (conflicts a.name.now a.rtype a.own.now) (λ f b found post. search rules)
