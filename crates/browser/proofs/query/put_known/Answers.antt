use Rattle.browser.proofs.query.Filling.{known-put, known_over, known-misfit}
use Rattle.browser.proofs.query.put_known.Goals as goal

pub returns-then-spot-le-MOST_PACKET : goal.returns-then-spot-le-MOST_PACKET
returns-then-spot-le-MOST_PACKET c = known-put c.args.store.now c.args.len c.args.k c.args.at c.args.out.now c.args.places.now c.requires _ _ _ c.slot_of-slot.ensures.bytes c.part-owner.ensures.bytes c.part-target.ensures.bytes _ _ _ c.put_record.ensures _ c.in-Ok.is c.if-spot-le-MOST_PACKET.true

pub returns-else-spot-le-MOST_PACKET : goal.returns-else-spot-le-MOST_PACKET
returns-else-spot-le-MOST_PACKET c = known_over c.args.store.now c.args.len c.args.k c.args.at c.args.out.now c.args.places.now c.requires _ _ _ c.slot_of-slot.ensures.bytes c.part-owner.ensures.bytes c.part-target.ensures.bytes _ _ _ c.put_record.ensures _ c.in-Ok.is c.if-spot-le-MOST_PACKET.false

pub returns-in_default : goal.returns-in_default
returns-in_default c = known-misfit c.args.store.now c.args.len c.args.k c.args.at c.args.out.now c.args.places.now c.requires _ _ _ c.slot_of-slot.ensures.bytes c.part-owner.ensures.bytes c.part-target.ensures.bytes _ _ _ c.put_record.ensures _ c.in_default.is
