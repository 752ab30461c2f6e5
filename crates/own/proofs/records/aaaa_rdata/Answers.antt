use native.Mathlib.Omega.{arith}
use Rattle.own.proofs.records.Laying.{own_of_lem}
use Rattle.own.proofs.records.aaaa_rdata.Goals as goal

pub returns : goal.returns
returns c = own_of_lem c.args.a _ 16 c.put.ensures (omega arith) (omega arith)
