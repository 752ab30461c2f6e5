use Rattle.std.proofs.Common.{ap, ◌∙◌}
use Rattle.std.specs.Prelude.{Some}
use Rattle.trace.proofs.reading.Begun.{whole_of, behind-of, behind-other}
use Rattle.trace.proofs.reading.behind_source.Goals as goal

pub returns-in_default : goal.returns-in_default
returns-in_default c = let a = c.args in behind-of a.trace.now a.at _ c.record_at.ensures a.from a.hold _ c.in_default.is

pub with_data-requires : goal.with_data-requires
with_data-requires c = let a = c.args in whole_of a.trace.now a.at _ c.record_at.ensures _ (c.in-Some.is ∙ ap Some c.in-Packet.is)

pub returns-in-Packet : goal.returns-in-Packet
returns-in-Packet c = let a = c.args in
    c.with_data.ensures ∙ behind-of a.trace.now a.at _ c.record_at.ensures a.from a.hold _ (c.in-Some.is ∙ ap Some c.in-Packet.is)

pub returns-in_default-record : goal.returns-in_default-record
returns-in_default-record c = let a = c.args in behind-other a.trace.now a.at _ c.record_at.ensures a.from a.hold _ c.in-Some.is c.in_default-record.not-Packet
