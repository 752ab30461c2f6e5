use mathlib.Core.Path.{ap}
use Rattle.wire.specs.rdata.Answers.{fits}
use Rattle.facts.proofs.tiebreak.Turns.{met_under, met_other}
use Rattle.facts.proofs.tiebreak.count_met.Goals as goal

pub is_named-requires : goal.is_named-requires
is_named-requires c = record { ends = c.requires.ends; long_if_known = c.requires.record_found.1.long }

pub compare_with_own-requires : goal.compare_with_own-requires
compare_with_own-requires c = ap fits c.requires.record_found.1.content

pub returns-then-is_named : goal.returns-then-is_named
returns-then-is_named c = met_under _ _ _ _ _ c.is_named.ensures c.if-is_named.true _ c.compare_with_own.ensures _ c.count_one.ensures

pub returns : goal.returns
returns c = met_other _ _ _ _ _ c.is_named.ensures c.if-is_named.false
