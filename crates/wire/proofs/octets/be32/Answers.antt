use Rattle.wire.proofs.octets.Past.{word32-past, word32-last}
use Rattle.wire.proofs.octets.be32.Goals as goal

pub returns-then-p-at : goal.returns-then-p-at
returns-then-p-at c = word32-past c.args.p.now c.args.at c.if-p-at.true

pub returns-then-p-next : goal.returns-then-p-next
returns-then-p-next c = word32-last c.args.p.now c.args.at _ c.byte.ensures c.if-p-next.true
