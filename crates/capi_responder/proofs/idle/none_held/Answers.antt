use native.Mathlib.Omega.{arith}
use Rattle.capi_responder.proofs.idle.Unheld.{clear_begin, clear_on, clear_lost, clear_end}
use Rattle.capi_responder.proofs.idle.none_held.Goals as goal
use Rattle.capi_responder.proofs.idle.none_held.Goals.{then-x-ne0, else-x-ne0}

pub loop-x-init : goal.loop-x-init
loop-x-init c = clear_begin _ c.requires

pub loop-x-preserved : goal.loop-x-preserved
loop-x-preserved c = let b = c.args.b.now in
    let l = c.loop-x in
    elim c.if-x-ne0.branch [
      | then-x-ne0 w ↦ clear_lost b l.x-index (omega arith) c.loop-x-test.true l.clear l.invariant w.if-x-ne0.true _ w.clear-is
      | else-x-ne0 w ↦ clear_on b l.x-index (omega arith) c.loop-x-test.true l.clear l.invariant w.if-x-ne0.false _ w.clear-is
    ]

pub returns : goal.returns
returns c = clear_end _ c.loop-x.x-index _ (omega arith) c.loop-x.invariant
