use native.Mathlib.Omega.{arith}
use Rattle.wire.proofs.message.Fields.{behind-short, behind-over, behind-found}
use Rattle.wire.proofs.message.record_behind.Goals as goal

pub returns-then-p-end : goal.returns-then-p-end
returns-then-p-end c = let a = c.args in
    behind-short a.p.now a.at a.span (omega arith)

pub returns-then-p-rdata : goal.returns-then-p-rdata
returns-then-p-rdata c = let a = c.args in
    behind-over a.p.now a.at a.span (omega arith) (omega arith)

pub returns : goal.returns
returns c = let a = c.args in
    behind-found a.p.now a.at a.span _ _ _ _ _
    c.be16-rdlength.ensures c.be16.ensures c.be16-2.ensures c.be32.ensures c.counted_ttl.ensures (omega arith) (omega arith)
