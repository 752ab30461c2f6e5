use mathlib.Core.Path.{◌∙◌}
use Rattle.wire.proofs.message.Fields.{record_bad, record_behind_lem}
use Rattle.wire.proofs.message.record_at.Goals as goal

pub returns : goal.returns
returns c = let a = c.args in
    record_behind_lem a.p.now a.at _ c.name_at.ensures _ c.in_ok-span.was _ c.record_behind.ensures

pub returns-in_err-span : goal.returns-in_err-span
returns-in_err-span c = c.from_residual.ensures ∙ record_bad _ _ _ c.name_at.ensures c.in_err-span.was
