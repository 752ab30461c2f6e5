use mathlib.Core.Path.{refl}
use Rattle.writer.proofs.own_packets.Picking.{both-picks, one-picks}
use Rattle.writer.proofs.own_packets.pick_claim.Goals as goal

pub returns-then-not-has_record : goal.returns-then-not-has_record
returns-then-not-has_record c = one-picks _ _ _ _ c.first_of.ensures c.second_of-second.ensures _ _ c.index_of.ensures refl _
    c.has_record.ensures c.if-not-has_record.true

pub returns : goal.returns
returns c = both-picks _ _ _ _ c.first_of.ensures c.second_of-second.ensures _ _
    c.index_of.ensures c.index_of-2.ensures _ c.has_record.ensures c.if-not-has_record.false
