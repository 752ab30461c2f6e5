use mathlib.Core.Path.{sym, ap, ◌∙◌}
use Rattle.claims.specs.due.Due.{next_due}
use Rattle.capi_responder.specs.state.Told.{step_for}
use Rattle.capi_responder.proofs.state.kurgashel_due.Goals as goal

pub returns-in-None : goal.returns-in-None
returns-in-None c = let d = ap next_due c.read_progress.ensures in
    sym (ap step_for (sym (c.next_due.ensures ∙ d) ∙ c.in-None.is))

pub returns-in-Some : goal.returns-in-Some
returns-in-Some c = let d = ap next_due c.read_progress.ensures in
    sym (ap step_for (sym (c.next_due.ensures ∙ d) ∙ c.in-Some.is))
