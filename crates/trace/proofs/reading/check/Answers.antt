use Rattle.std.proofs.Common.{sym, ap, ◌∙◌, arith}
use Rattle.std.proofs.lemmas.Result.{err_from_is_err_and}
use Rattle.trace.specs.reading.Reading.{found_in}
use Rattle.trace.specs.reading.Events.{checked_of}
use Rattle.trace.proofs.reading.Begun.{step_end}
use Rattle.trace.proofs.reading.Placed.{placed}
use Rattle.trace.proofs.reading.Unrolled.{read_on, read_end, read_refused}
use Rattle.trace.proofs.reading.check.Goals as goal

pub returns-in_err-entry : goal.returns-in_err-entry
returns-in_err-entry c =
    let p = err_from_is_err_and c.from_residual.result c.from_residual.ensures.1 in
    rw (p.1, p.2) (sym (ap checked_of (c.loop-at.invariant.1 ∙ read_refused _ _ _ (sym c.entry_at.ensures ∙ ap found_in c.in_err-entry.was))))

pub loop-at-smaller : goal.loop-at-smaller
loop-at-smaller c =
    omega (arith, placed c.args.trace.now c.loop-at.at c.in_ok-entry.entry (sym c.entry_at.ensures ∙ ap found_in c.in_ok-entry.was))

pub loop-at-preserved : goal.loop-at-preserved
loop-at-preserved c =
    let q = sym c.entry_at.ensures ∙ ap found_in c.in_ok-entry.was in (
      (placed c.args.trace.now c.loop-at.at c.in_ok-entry.entry q).room,
      c.loop-at.invariant.1 ∙ read_on c.args.trace.now c.loop-at.at c.in_ok-entry.entry q,
    )

pub returns : goal.returns
returns c = sym (ap checked_of (c.loop-at.invariant.1 ∙ read_end _ _ (sym (step_end c.args.trace.now c.loop-at.at (omega arith)))))
