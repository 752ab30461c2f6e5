use Rattle.std.proofs.Common.{sym, ap, ◌∙◌, arith}
use Rattle.std.specs.Prelude.{Some}
use Rattle.trace.specs.records.Records.{kind_of}
use Rattle.trace.proofs.records.Whole.{record_short, record_unknown, record_whole}
use Rattle.trace.proofs.records.record_at.Goals as goal
use Rattle.trace.proofs.records.record_at.Goals.{then-trace-size-via-then-trace-size, then-trace-size-via-else-trace-size+then-trace-size-2}

pub returns-in_err-kind : goal.returns-in_err-kind
returns-in_err-kind c = let a = c.args in
    rw c.from_residual.ensures (record_unknown a.trace.now a.at (sym c.in_err-kind.was ∙ c.kind_of.ensures ∙ ap kind_of c.byte.ensures))

pub returns-then-trace-size : goal.returns-then-trace-size
returns-then-trace-size c = let a = c.args in
    let known = sym c.in_ok-kind.was ∙ c.kind_of.ensures ∙ ap kind_of c.byte.ensures in
    record_short a.trace.now a.at (Some c.in_ok-kind.kind) known
    (elim c.then-trace-size.branch [
      | then-trace-size-via-then-trace-size w ↦ omega arith
      | then-trace-size-via-else-trace-size+then-trace-size-2 w ↦ omega arith
    ])

pub returns : goal.returns
returns c = let a = c.args in
    let known = sym c.in_ok-kind.was ∙ c.kind_of.ensures ∙ ap kind_of c.byte.ensures in
    record_whole a.trace.now a.at c.in_ok-kind.kind _ known (omega arith) c.fields.ensures
