use Rattle.own.proofs.records.Laying.{laid-udp, laid-tcp}
use Rattle.own.proofs.records.put_protocol.Goals as goal

pub returns-then-same_bytes : goal.returns-then-same_bytes
returns-then-same_bytes c = laid-udp _ _ _ _ _ _ _ c.same_bytes.ensures c.if-same_bytes.true c.put_label.ensures

pub returns-else-same_bytes : goal.returns-else-same_bytes
returns-else-same_bytes c = laid-tcp _ _ _ _ _ _ _ c.same_bytes.ensures c.if-same_bytes.false c.put_label-else-same_bytes.ensures
