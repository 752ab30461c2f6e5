use Rattle.std.proofs.Common.{arith}
use Rattle.cache.proofs.entries.Single.{rdata-here}
use Rattle.cache.proofs.entries.rdata_of.Goals as goal

pub returns-then-len : goal.returns-then-len
returns-then-len c = let a = c.args in rdata-here a.store.now a.i a.len (omega arith) (omega arith)
