use native.Mathlib.Omega.{arith}
use Rattle.own.proofs.records.Laying.{own_laid}
use Rattle.own.proofs.records.instance_name.Goals as goal

pub returns : goal.returns
returns c = own_laid _ _ _ 93 c.put_instance_name-len.ensures (omega arith)
