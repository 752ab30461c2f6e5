use native.Mathlib.Omega.{arith}
use Rattle.own.proofs.records.Laying.{own_laid}
use Rattle.own.proofs.records.service_name.Goals as goal

pub returns : goal.returns
returns c = own_laid _ _ _ 29 c.put_service_name-len.ensures (omega arith)
