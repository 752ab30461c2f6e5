use Rattle.std.proofs.Common.{ap, ◌∙◌, arith}
use Rattle.std.specs.Prelude.{Some}
use Rattle.trace.proofs.reading.Begun.{whole_of, step_of, usual_stops, source_goes}
use Rattle.trace.proofs.reading.entry_at.Goals as goal

pub with_data-requires : goal.with_data-requires
with_data-requires c = let a = c.args in whole_of a.trace.now a.at _ c.record_at.ensures _ (c.in-Some.is ∙ ap Some c.in-Packet.is)

pub returns-then-is_usual : goal.returns-then-is_usual
returns-then-is_usual c = let a = c.args in
    usual_stops a.trace.now a.at _ c.record_at.ensures _ _ (c.in-Some.is ∙ ap Some c.in-Source.is) _ c.is_usual.ensures c.if-is_usual.true (omega arith)

pub behind_source-requires : goal.behind_source-requires
behind_source-requires c = let a = c.args in whole_of a.trace.now a.at _ c.record_at.ensures _ (c.in-Some.is ∙ ap Some c.in-Source.is)

pub with_data-requires-in-Txt : goal.with_data-requires-in-Txt
with_data-requires-in-Txt c = let a = c.args in whole_of a.trace.now a.at _ c.record_at.ensures _ (c.in-Some.is ∙ ap Some c.in-Txt.is)

pub returns-in-Tick : goal.returns-in-Tick
returns-in-Tick c = let a = c.args in c.alone.ensures ∙ step_of a.trace.now a.at _ c.record_at.ensures _ (c.in-Some.is ∙ ap Some c.in-Tick.is) (omega arith)

pub returns-in-Packet : goal.returns-in-Packet
returns-in-Packet c = let a = c.args in
    c.with_data.ensures ∙ step_of a.trace.now a.at _ c.record_at.ensures _ (c.in-Some.is ∙ ap Some c.in-Packet.is) (omega arith)

pub returns-in-Piece : goal.returns-in-Piece
returns-in-Piece c = let a = c.args in step_of a.trace.now a.at _ c.record_at.ensures _ (c.in-Some.is ∙ ap Some c.in-Piece.is) (omega arith)

pub returns-in-Claim : goal.returns-in-Claim
returns-in-Claim c = let a = c.args in
    c.alone-in-Claim.ensures ∙ step_of a.trace.now a.at _ c.record_at.ensures _ (c.in-Some.is ∙ ap Some c.in-Claim.is) (omega arith)

pub returns-else-is_usual : goal.returns-else-is_usual
returns-else-is_usual c = let a = c.args in
    c.behind_source.ensures ∙ source_goes a.trace.now a.at _ c.record_at.ensures _ _ (c.in-Some.is ∙ ap Some c.in-Source.is) _ c.is_usual.ensures c.if-is_usual.false (omega arith)

pub returns-in-Stop : goal.returns-in-Stop
returns-in-Stop c = let a = c.args in
    c.alone-in-Stop.ensures ∙ step_of a.trace.now a.at _ c.record_at.ensures _ (c.in-Some.is ∙ ap Some c.in-Stop.is) (omega arith)

pub returns-in-Port : goal.returns-in-Port
returns-in-Port c = let a = c.args in
    c.alone-in-Port.ensures ∙ step_of a.trace.now a.at _ c.record_at.ensures _ (c.in-Some.is ∙ ap Some c.in-Port.is) (omega arith)

pub returns-in-Txt : goal.returns-in-Txt
returns-in-Txt c = let a = c.args in
    c.with_data-in-Txt.ensures ∙ step_of a.trace.now a.at _ c.record_at.ensures _ (c.in-Some.is ∙ ap Some c.in-Txt.is) (omega arith)

pub returns-in_default : goal.returns-in_default
returns-in_default c = let a = c.args in step_of a.trace.now a.at _ c.record_at.ensures _ c.in_default.is (omega arith)
