use mathlib.Core.Path.{ap, ◌∙◌}
use Prim.Native.Nat.{◌≤◌}
use native.Mathlib.Omega.{arith}
use lib.ListN.{length}
use lib.Seq.{sets}
use Rattle.wire.specs.names.Names.{name_at}
use Rattle.wire.proofs.runs.Into.{into_short, into_span, into_runs, into_expanded, into_bad}
use Rattle.wire.proofs.runs.name_into.Goals as goal

pub returns-then-out-len : goal.returns-then-out-len
returns-then-out-len c = let a = c.args in
    let g = c.runs_at.ensures in
    let k = c.in_ok-runs.was in
    let x = name_at a.p.now a.at in
    record { answer = into_span a.p.now x a.out.now _ g.span g.bytes _ k; bytes = into_short a.p.now x a.out.now _ g.span g.bytes _ k c.if-out-len.true }

pub returns-then-runs : goal.returns-then-runs
returns-then-runs c = let a = c.args in
    let g = c.runs_at.ensures in
    let k = c.in_ok-runs.was in
    let x = name_at a.p.now a.at in
    let fits : c.in_ok-runs.runs.span.len ≤ length a.out.now = omega arith in record {
      answer = into_span a.p.now x a.out.now _ g.span g.bytes _ k;
      bytes = into_runs a.p.now x a.out.now _ g.span g.bytes _ k fits c.if-runs.true _ _
          (c.put.ensures ∙ ap (sets a.out.now 0) c.part.ensures.bytes)
          (c.put-then-runs.ensures ∙ ap (sets c.put.new.out _) c.part-rest.ensures.bytes);
    }

pub returns-else-runs : goal.returns-else-runs
returns-else-runs c = let a = c.args in
    let g = c.runs_at.ensures in
    let k = c.in_ok-runs.was in
    let x = name_at a.p.now a.at in
    let fits : c.in_ok-runs.runs.span.len ≤ length a.out.now = omega arith in record {
      answer = into_span a.p.now x a.out.now _ g.span g.bytes _ k;
      bytes = into_expanded a.p.now x a.out.now _ g.span g.bytes _ k fits c.expand-expanded.result c.expand-expanded.ensures _
          (c.put-else-runs.ensures ∙ ap (sets a.out.now 0) c.part-else-runs.ensures.bytes);
    }

pub returns-in_err-runs : goal.returns-in_err-runs
returns-in_err-runs c = let a = c.args in
    let g = c.runs_at.ensures in
    let all = into_bad a.p.now (name_at a.p.now a.at) a.out.now _ g.span g.bytes c.in_err-runs.was in record { answer = c.from_residual.ensures ∙ all.0; bytes = all.1 }
