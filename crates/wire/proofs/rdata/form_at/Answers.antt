use mathlib.Core.Path.{ap, ◌∙◌}
use Rattle.wire.specs.rdata.Rdata.{form_in}
use Rattle.wire.proofs.rdata.form_at.Goals as goal

pub returns : goal.returns
returns c = let a = c.args in c.form_in.ensures ∙ ap (form_in a.p.now a.f) c.part.ensures.bytes
