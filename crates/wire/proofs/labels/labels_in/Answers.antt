use native.Mathlib.Omega.{arith}
use Rattle.wire.proofs.labels.Counted.{count_end, count_root, count_on}
use Rattle.wire.proofs.labels.labels_in.Goals as goal

pub loop-i-init : goal.loop-i-init
loop-i-init c = (omega arith, omega arith, omega arith)

pub returns-then-n-eq0 : goal.returns-then-n-eq0
returns-then-n-eq0 c = count_root _ _ c.loop-i.i c.loop-i.invariant.2 (omega arith) c.if-n-eq0.true

pub overflow_add-i-in-loop-i : goal.overflow_add-i-in-loop-i
overflow_add-i-in-loop-i c = omega (arith, c.shared_slice_known-1.given c.loop-i.i)

pub loop-i-preserved : goal.loop-i-preserved
loop-i-preserved c = (
  omega (arith, c.shared_slice_known-1.given c.loop-i.i),
  omega
      (arith, c.shared_slice_known-1.given c.loop-i.i),
  count_on _ _ c.loop-i.i
      c.loop-i.invariant.2 (omega arith) c.if-n-eq0.false,
)

pub returns : goal.returns
returns c = count_end _ _ c.loop-i.i c.loop-i.invariant.2 (omega arith)
