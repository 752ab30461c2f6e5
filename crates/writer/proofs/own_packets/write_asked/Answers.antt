use Rattle.writer.proofs.own_packets.Answering.{asked-not, asked-grown}
use Rattle.writer.proofs.own_packets.write_asked.Goals as goal

pub returns-in_default : goal.returns-in_default
returns-in_default c = asked-not _ _ _ _ c.requires c.in_default.is

pub returns : goal.returns
returns c = asked-grown _ _ _ _ c.requires
    _ c.in-Some.is _ _ _
    c.put_question-placed.ensures _ c.spot_after.ensures
