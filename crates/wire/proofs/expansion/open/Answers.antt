use mathlib.Core.Path.{sym, ◌∙◌}
use Rattle.wire.proofs.expansion.Views.{open_unfit, name-room, open_named, open_other}
use Rattle.wire.proofs.expansion.open.Goals as goal

pub returns-then-not-rdata_fits : goal.returns-then-not-rdata_fits
returns-then-not-rdata_fits c = let a = c.args in open_unfit a.p.now a.f (sym c.rdata_fits.ensures ∙ c.if-not-rdata_fits.true)

pub open_name-requires : goal.open_name-requires
open_name-requires c = let a = c.args in name-room a.p.now a.f _ c.form_at-held.ensures c.if-held.true (sym c.rdata_fits.ensures ∙ c.if-not-rdata_fits.false)

pub returns-then-held : goal.returns-then-held
returns-then-held c = let a = c.args in open_named a.p.now a.f _ c.form_at-held.ensures c.if-held.true (sym c.rdata_fits.ensures ∙ c.if-not-rdata_fits.false) _ c.open_name.ensures

pub returns : goal.returns
returns c = let a = c.args in open_other a.p.now a.f _ c.form_at-held.ensures c.if-held.false
