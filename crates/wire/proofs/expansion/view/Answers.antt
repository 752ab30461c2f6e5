use mathlib.Core.Path.{◌∙◌}
use Rattle.wire.proofs.expansion.Views.{view_named, view_plain}
use Rattle.wire.proofs.expansion.view.Goals as goal

pub returns-then-held : goal.returns-then-held
returns-then-held c = let a = c.args in let v = view_named a.p.now a.f _ c.form_at-held.ensures a.opened.now a.n a.p.ref_ptr a.opened.ref_ptr c.if-held.true in record { bytes = c.part.ensures.bytes ∙ v.0; start = c.part.ensures.start ∙ v.1 }

pub returns : goal.returns
returns c = let a = c.args in let v = view_plain a.p.now a.f _ c.form_at-held.ensures a.opened.now a.n a.p.ref_ptr a.opened.ref_ptr c.if-held.false in record { bytes = c.part-2.ensures.bytes ∙ v.0; start = c.part-2.ensures.start ∙ v.1 }
