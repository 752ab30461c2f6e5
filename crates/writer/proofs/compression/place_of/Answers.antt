use mathlib.Core.Path.{refl}
use native.Mathlib.Omega.{arith}
use Rattle.writer.proofs.compression.Search.{place_end, place_here, place-on}
use Rattle.writer.proofs.compression.place_of.Goals as goal

pub loop-o-init : goal.loop-o-init
loop-o-init c = (omega arith, refl)

pub returns-then-stands_at : goal.returns-then-stands_at
returns-then-stands_at c = place_here _ _ _ c.loop-o.o-index c.loop-o.invariant.1 (omega arith) _
    c.stands_at.ensures c.if-stands_at.true

pub loop-o-preserved : goal.loop-o-preserved
loop-o-preserved c = (
  omega arith,
  place-on _ _ _ c.loop-o.o-index c.loop-o.invariant.1 (omega arith) _
      c.stands_at.ensures c.if-stands_at.false,
)

pub returns : goal.returns
returns c = place_end _ _ _ c.loop-o.o-index c.loop-o.invariant.1 (omega arith)
