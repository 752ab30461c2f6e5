use Rattle.wire.proofs.octets.Past.{word16-past}
use Rattle.wire.proofs.octets.be16.Goals as goal

pub returns-then-p-at : goal.returns-then-p-at
returns-then-p-at c = word16-past c.args.p.now c.args.at c.if-p-at.true
