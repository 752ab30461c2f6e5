use mathlib.Core.Path.{refl}
use native.Mathlib.Omega.{arith}
use Rattle.proxy.proofs.domains.Starts.{at_first, came_further, came_to}
use Rattle.proxy.proofs.domains.starts_at.Goals as goal

pub loop-i-init : goal.loop-i-init
loop-i-init c = (omega arith, omega arith, at_first _ _)

pub overflow_add-i-in-loop-i : goal.overflow_add-i-in-loop-i
overflow_add-i-in-loop-i c = omega (arith, c.type_inv.name c.loop-i.i)

pub loop-i-preserved : goal.loop-i-preserved
loop-i-preserved c = (
  omega arith,
  omega (arith, c.type_inv.name c.loop-i.i),
  came_further _ _ _ (omega arith) (omega arith)
      c.loop-i.invariant.2 _ refl,
)

pub returns : goal.returns
returns c = came_to _ _ _ (omega arith) c.loop-i.invariant.2
