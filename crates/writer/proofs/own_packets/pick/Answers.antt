use native.Mathlib.Omega.{arith}
use Rattle.writer.proofs.own_packets.Picking.{picking, picked_all, not_chosen, not_there, taken}
use Rattle.writer.proofs.own_packets.pick.Goals as goal
use Rattle.writer.proofs.own_packets.pick.Goals.{then-is_in+then-has_record, else-is_in, else-is_in-via-then-is_in+else-has_record, else-is_in-via-else-is_in}

pub loop-i-init : goal.loop-i-init
loop-i-init c = picking _ _

pub loop-i-preserved : goal.loop-i-preserved
loop-i-preserved c = elim c.if-is_in.branch [
  | then-is_in+then-has_record w ↦ rw (w.order-is, w.n-is) (taken _ _ _ _ _ c.loop-i.invariant (omega arith) _ c.record_at-o.ensures _ c.is_in.ensures w.if-is_in.true _
      w.has_record.ensures w.if-has_record.true)
  | else-is_in w ↦ rw (w.order-is, w.n-is) (elim w.else-is_in.branch [
    | else-is_in-via-then-is_in+else-has_record v ↦ not_there _ _ _ _ _ c.loop-i.invariant (omega arith) _ c.record_at-o.ensures _ v.has_record.ensures v.if-has_record.false
    | else-is_in-via-else-is_in v ↦ not_chosen _ _ _ _ _ c.loop-i.invariant (omega arith) _ c.record_at-o.ensures _ c.is_in.ensures v.if-is_in.false
  ])
]

pub returns : goal.returns
returns c = picked_all _ _ _ _ _ c.loop-i.invariant (omega arith)
