use Prim.Native.Nat.{◌/◌, ◌%◌}
use Rattle.writer.proofs.Parts.{five}
use Rattle.writer.proofs.put_fields.Goals as goal

pub returns : goal.returns
returns c = five c.args.out.now c.args.at c.args.rtype c.args.class
    (c.args.ttl / 65536) (c.args.ttl % 65536) c.args.len _ _ _ _ _
    c.put_u16.ensures c.put_u16-2.ensures
    c.put_u16-3.ensures c.put_u16-4.ensures c.put_u16-5.ensures
