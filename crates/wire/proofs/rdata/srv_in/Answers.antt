use native.Mathlib.Omega.{arith}
use mathlib.Core.Path.{sym, ◌∙◌}
use Rattle.wire.proofs.rdata.Parts.{name-starts, srv_there, srv_bad}
use Rattle.wire.proofs.rdata.srv_in.Goals as goal

pub overflow_add-result : goal.overflow_add-result
overflow_add-result c = omega (arith, name-starts _ _ _ _ _ _ (sym c.name_in.ensures ∙ c.in_ok-span.was))

pub returns : goal.returns
returns c = srv_there _ _ _ _ c.name_in.ensures _ c.in_ok-span.was _ _ _ c.be16.ensures c.be16-2.ensures c.be16-3.ensures

pub returns-in_err-span : goal.returns-in_err-span
returns-in_err-span c = c.from_residual.ensures ∙ srv_bad _ _ _ _ c.name_in.ensures c.in_err-span.was
