use borrow.Author.Tests.{not-true}
use Rattle.wire.proofs.expansion.Views.{is-nothing, is-lying, is-viewed}
use Rattle.wire.proofs.expansion.rdata_is.Goals as goal

pub returns-then-not-rdata_fits : goal.returns-then-not-rdata_fits
returns-then-not-rdata_fits c = let a = c.args in is-nothing a.p.now a.f a.other.now _ c.rdata_fits.ensures (c.if-not-rdata_fits.true)

pub returns-then-not-held : goal.returns-then-not-held
returns-then-not-held c = let a = c.args in is-lying a.p.now a.f _ c.rdata_fits.ensures (c.if-not-rdata_fits.false) _ c.form_at-held.ensures (not-true _ c.if-not-held.true) _ c.part.ensures.bytes a.other.now _ c.same_bytes.ensures

pub returns : goal.returns
returns c = let a = c.args in is-viewed a.p.now a.f _ c.rdata_fits.ensures (c.if-not-rdata_fits.false) _ c.open-o.ensures _ c.view.ensures.bytes a.other.now _ c.same_bytes-2.ensures
