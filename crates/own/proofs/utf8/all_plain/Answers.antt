use native.Mathlib.Omega.{arith}
use mathlib.Core.Path.{refl}
use Rattle.own.proofs.utf8.Bytes.{plain-on, plain-lost, plain_end}
use Rattle.own.proofs.utf8.all_plain.Goals as goal
use Rattle.own.proofs.utf8.all_plain.Goals.{then-not-is_within, else-not-is_within}

pub loop-b-init : goal.loop-b-init
loop-b-init c = (omega arith, refl)

pub loop-b-preserved : goal.loop-b-preserved
loop-b-preserved c = (
  omega arith,
  elim c.if-not-is_within.branch [
    | then-not-is_within w ↦ plain-lost _ c.loop-b.b-index (omega arith) c.loop-b.plain c.loop-b.invariant.1 _ c.is_within.ensures w.if-not-is_within.true _ w.plain-is
    | else-not-is_within w ↦ plain-on _ c.loop-b.b-index (omega arith) c.loop-b.plain c.loop-b.invariant.1 _ c.is_within.ensures w.if-not-is_within.false _ w.plain-is
  ],
)

pub returns : goal.returns
returns c = plain_end _ c.loop-b.b-index _ (omega arith) c.loop-b.invariant.1
