use native.Mathlib.Omega.{arith}
use Rattle.own.proofs.records.Laying.{own_nsec}
use Rattle.own.proofs.records.instance_nsec.Goals as goal

pub put_types-len-requires : goal.put_types-len-requires
put_types-len-requires c = omega (arith, c.put_instance_name-end.ensures.ended, c.put_instance_name-end.ensures.few)

pub returns : goal.returns
returns c = own_nsec _ _ _ _ _ _ 93 7 (omega arith) c.put_instance_name-end.ensures c.put_types-len.ensures
