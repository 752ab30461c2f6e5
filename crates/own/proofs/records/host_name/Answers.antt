use native.Mathlib.Omega.{arith}
use Rattle.own.proofs.records.Laying.{own_laid}
use Rattle.own.proofs.records.host_name.Goals as goal

pub returns : goal.returns
returns c = own_laid _ _ _ 71 c.put_host_name-len.ensures (omega arith)
