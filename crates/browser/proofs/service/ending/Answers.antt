use Rattle.browser.proofs.service.Names.{udp-ending, tcp-ending}
use Rattle.browser.proofs.service.ending.Goals as goal

pub returns-then-same_bytes : goal.returns-then-same_bytes
returns-then-same_bytes c = udp-ending _ _ c.same_bytes.ensures c.if-same_bytes.true

pub returns : goal.returns
returns c = tcp-ending _ _ c.same_bytes.ensures c.if-same_bytes.false
