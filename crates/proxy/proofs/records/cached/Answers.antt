use Rattle.proxy.proofs.records.Lying.{held-live}
use Rattle.proxy.proofs.records.Numbers.{cached_number}
use Rattle.wire.specs.refusals.Numbers.{number_in}
use mathlib.Core.Path.{sym, ap, ◌∙◌}
use Rattle.proxy.proofs.records.cached.Goals as goal

pub returns : goal.returns
returns c =
    let answer = held-live _ _ _ _ (sym c.in_ok-check_held.ensures.answer) (sym c.is_live.ensures ∙ c.if-not-is_live.false) _ _ _ c.part-owner.ensures.bytes
    c.part-rdata.ensures.bytes c.seconds_left.ensures _ c.record.ensures.answer in
    record { answer = answer; number = ap number_in answer ∙ cached_number _ _ _ _ }
