use native.Mathlib.Omega.{arith}
use Rattle.wire.proofs.expansion.Views.{span_fits, span_long, span_small, opened-bad, opened-found}
use Rattle.wire.proofs.expansion.open_name.Goals as goal

pub slice_bounds-b-end : goal.slice_bounds-b-end
slice_bounds-b-end c = let a = c.args in span_fits a.p.now a.at a.len a.before a.behind (omega arith) (omega arith) (omega arith) _ c.expand-e.ensures _ c.in-Some.is

pub slice_bounds-put-end-in-Some-3 : goal.slice_bounds-put-end-in-Some-3
slice_bounds-put-end-in-Some-3 c = let a = c.args in span_long a.p.now a.at a.len a.before a.behind (omega arith) (omega arith) (omega arith) _ c.expand-e.ensures _ c.in-Some.is

pub overflow_add-before : goal.overflow_add-before
overflow_add-before c = let a = c.args in omega (arith, span_small a.p.now a.at a.len a.before a.behind (omega arith) (omega arith) (omega arith) _ c.expand-e.ensures _ c.in-Some.is)

pub overflow_add-result : goal.overflow_add-result
overflow_add-result c = let a = c.args in omega (arith, span_small a.p.now a.at a.len a.before a.behind (omega arith) (omega arith) (omega arith) _ c.expand-e.ensures _ c.in-Some.is)

pub overflow_add-result-in-Some : goal.overflow_add-result-in-Some
overflow_add-result-in-Some c = let a = c.args in omega (arith, span_small a.p.now a.at a.len a.before a.behind (omega arith) (omega arith) (omega arith) _ c.expand-e.ensures _ c.in-Some.is)

pub returns-in-Some : goal.returns-in-Some
returns-in-Some c = let a = c.args in opened-found a.p.now a.at a.len a.before a.behind (omega arith) (omega arith) (omega arith) _ c.expand-e.ensures _ c.in-Some.is _ _ _ c.put.ensures c.put-in-Some.ensures c.put-in-Some-2.ensures

pub returns-in-None : goal.returns-in-None
returns-in-None c = let a = c.args in opened-bad a.p.now a.at a.len a.before a.behind (omega arith) (omega arith) (omega arith) _ c.expand-e.ensures c.in-None.is
