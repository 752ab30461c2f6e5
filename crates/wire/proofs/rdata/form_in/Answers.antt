use Rattle.wire.proofs.rdata.Forms.{in_nsec, in_typed}
use Rattle.wire.proofs.rdata.form_in.Goals as goal

pub returns-then-f-ne-NSEC : goal.returns-then-f-ne-NSEC
returns-then-f-ne-NSEC c = let a = c.args in in_typed a.p.now a.d.now a.f c.if-f-ne-NSEC.true _ c.form_of.ensures

pub returns : goal.returns
returns c = let a = c.args in in_nsec a.p.now a.d.now a.f c.if-f-ne-NSEC.false _ c.next_form.ensures
