use mathlib.Core.Path.{sym, ap, ◌∙◌}
use Rattle.wire.specs.refusals.Numbers.{number_in}
use Rattle.proxy.proofs.records.Lying.{none-lying, span_within_lem, span_long, record_lying}
use Rattle.proxy.proofs.records.Numbers.{item_number}
use Rattle.proxy.proofs.records.record_at.Goals as goal

pub returns-in_default : goal.returns-in_default
returns-in_default c =
    let answer = none-lying _ _ _ (sym c.in_default.ensures) _ c.none.ensures.answer in
    record { answer = answer; number = ap number_in answer ∙ item_number _ _ }

pub slice_bounds-owner-end : goal.slice_bounds-owner-end
slice_bounds-owner-end c = span_within_lem _ _ _ (sym c.in-Some.ensures) _ c.expand.ensures

pub slice_bounds-record-end : goal.slice_bounds-record-end
slice_bounds-record-end c = span_long _ _ _ (sym c.in-Some.ensures) _ c.expand.ensures

pub returns : goal.returns
returns c =
    let answer = record_lying _ _ _ (sym c.in-Some.ensures) _ c.expand.ensures _ c.open-opened.ensures _ c.view-rdata.ensures.bytes _ _ c.record.ensures.answer in
    record { answer = answer; number = ap number_in answer ∙ item_number _ _ }
