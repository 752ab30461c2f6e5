use Rattle.writer.proofs.own_packets.Owned.{six}
use Rattle.writer.proofs.own_packets.put_header.Goals as goal

pub returns : goal.returns
returns c = let a = c.args in
    six a.out.now a.id a.flags a.questions a.answers a.authorities 0 _ _ _ _ _ _ c.put_u16.ensures
    c.put_u16-2.ensures c.put_u16-3.ensures
    c.put_u16-4.ensures c.put_u16-5.ensures c.put_u16-6.ensures
