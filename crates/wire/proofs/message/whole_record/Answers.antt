use mathlib.Core.Path.{◌∙◌}
use Rattle.wire.proofs.message.Walk.{whole-found, whole-unfit, whole-bad}
use Rattle.wire.proofs.message.whole_record.Goals as goal

pub returns-then-rdata_fits : goal.returns-then-rdata_fits
returns-then-rdata_fits c = whole-found _ c.args.at _ c.record_at.ensures _ c.in_ok-f.was _ c.rdata_fits.ensures c.if-rdata_fits.true

pub returns-else-rdata_fits : goal.returns-else-rdata_fits
returns-else-rdata_fits c = whole-unfit _ c.args.at _ c.record_at.ensures _ c.in_ok-f.was _ c.rdata_fits.ensures c.if-rdata_fits.false

pub returns-in_err-f : goal.returns-in_err-f
returns-in_err-f c = c.from_residual.ensures ∙ whole-bad _ c.args.at _ c.record_at.ensures c.in_err-f.was
