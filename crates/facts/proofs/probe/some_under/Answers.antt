use Rattle.std.proofs.Common.{rules}
use Rattle.facts.specs.probe.Probe.{under}
use Rattle.facts.proofs.probe.some_under.Goals as goal

pub some_record-requires : goal.some_record-requires
some_record-requires c = record { whole = c.requires.whole; callable = λ f found. search rules }

pub returns : goal.returns
returns c = let a = c.args in c.some_record.ensures (under a.name.now) (λ f b found post. search rules)
