use Rattle.std.proofs.Common.{ap, sym, ◌∙◌}
use Rattle.std.proofs.lemmas.Result.{err_from_is_err_and}
use Rattle.trace.specs.reading.Reading.{found_in}
use Rattle.trace.proofs.reading.Begun.{step_end}
use Rattle.trace.proofs.reading.next.Goals as goal

pub returns-then-trace-at : goal.returns-then-trace-at
returns-then-trace-at c = let a = c.args in step_end a.trace.now a.at c.if-trace-at.true

pub returns-in_err-entry : goal.returns-in_err-entry
returns-in_err-entry c =
    let p = err_from_is_err_and c.from_residual.result c.from_residual.ensures.1 in
    rw (p.1, p.2) (ap found_in (sym c.in_err-entry.was) ∙ c.entry_at.ensures)

pub returns : goal.returns
returns c = ap found_in (sym c.in_ok-entry.was) ∙ c.entry_at.ensures
