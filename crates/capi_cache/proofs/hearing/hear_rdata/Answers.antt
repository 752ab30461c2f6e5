use mathlib.Core.Path.{ap, ◌∙◌}
use lib.Seq.{sets}
use Rattle.capi_cache.proofs.hearing.Answers.{over_named, plain_over, plain-not, plain-heard}
use Rattle.capi_cache.proofs.hearing.hear_rdata.Goals as goal

pub returns-then-form : goal.returns-then-form
returns-then-form c = let k = c.hear_named.ensures in (k.0, k.1 ∙ over_named _ _ c.requires.1 _ c.form_at-form.ensures c.if-form.true _)

pub returns-then-not-rdata_fits : goal.returns-then-not-rdata_fits
returns-then-not-rdata_fits c = (plain-not _ _ _ c.form_at-form.ensures c.if-form.false _ c.rdata_fits.ensures (c.if-not-rdata_fits.true), c.put.ensures ∙ ap (sets _ 256) c.part.ensures.bytes ∙ plain_over _ _ _ c.form_at-form.ensures c.if-form.false _)

pub returns : goal.returns
returns c = (plain-heard _ _ _ c.form_at-form.ensures c.if-form.false c.requires.1 _ c.rdata_fits.ensures (c.if-not-rdata_fits.false), c.put.ensures ∙ ap (sets _ 256) c.part.ensures.bytes ∙ plain_over _ _ _ c.form_at-form.ensures c.if-form.false _)
