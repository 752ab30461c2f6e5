use Rattle.writer.proofs.own_packets.Picking.{Picking}
use Rattle.writer.proofs.own_packets.pick.Given as goal

abbrev pub invariant-loop-i : goal.invariant-loop-i
invariant-loop-i l = Picking l.s l.chosen l.order l.n l.i
