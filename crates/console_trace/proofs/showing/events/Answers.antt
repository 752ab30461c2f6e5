use Rattle.std.proofs.Common.{sym, ap, ◌∙◌, arith}
use Rattle.std.specs.Prelude.{Ok}
use Rattle.trace.proofs.reading.Placed.{placed}
use Rattle.console_trace.proofs.showing.events.Goals as goal

pub loop-entry-smaller : goal.loop-entry-smaller
loop-entry-smaller g c =
    omega (arith, placed c.args.trace.now c.loop-entry.at c.in-Ok-Some.entry (sym c.next.ensures ∙ c.in-Ok-Some.is ∙ ap Ok c.in-Ok-Some.field-0-is))
