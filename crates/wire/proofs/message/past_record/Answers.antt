use mathlib.Core.Path.{◌∙◌}
use Rattle.wire.proofs.message.Fields.{past_record_bad, past_record_fits, past_record_unfit}
use Rattle.wire.proofs.message.past_record.Goals as goal

pub returns-then-rdata_fits : goal.returns-then-rdata_fits
returns-then-rdata_fits c = past_record_fits _ _ _ _ c.record_at.ensures c.in_ok-r.was _ c.rdata_fits.ensures c.if-rdata_fits.true

pub returns-else-rdata_fits : goal.returns-else-rdata_fits
returns-else-rdata_fits c = past_record_unfit _ _ _ _ c.record_at.ensures c.in_ok-r.was _ c.rdata_fits.ensures c.if-rdata_fits.false

pub returns-in_err-r : goal.returns-in_err-r
returns-in_err-r c = c.from_residual.ensures ∙ past_record_bad _ _ _ c.record_at.ensures c.in_err-r.was
