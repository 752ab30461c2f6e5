use native.Mathlib.Omega.{arith}
use Rattle.trace.proofs.writing.Answered.{past, unfit_written, short_written, end_written}
use Rattle.trace.proofs.writing.write.Goals as goal

pub returns-then-out-at : goal.returns-then-out-at
returns-then-out-at c = let a = c.args in let all = past a.out.now a.at a.event a.bytes.now c.if-out-at.true in record { answer = all.0; out = all.1 }

pub returns-then-out-at-2 : goal.returns-then-out-at-2
returns-then-out-at-2 c = let a = c.args in
    let all = short_written a.out.now a.at a.event a.bytes.now _ c.size_of.ensures _ c.in-Ok.is (omega arith) in
    record { answer = all.0; out = all.1 }

pub returns-in-Err : goal.returns-in-Err
returns-in-Err c = let a = c.args in
    let all = unfit_written a.out.now a.at a.event a.bytes.now _ c.size_of.ensures _ c.in-Err.is (omega arith) in
    record { answer = all.0; out = all.1 }

pub returns-else-out-at-2 : goal.returns-else-out-at-2
returns-else-out-at-2 c = let a = c.args in
    let all = end_written a.out.now a.at a.event a.bytes.now _ c.size_of.ensures _ c.in-Ok.is (omega arith) _ c.put_event.ensures in
    record { answer = all.0; out = all.1 }
