use native.Mathlib.Omega.{arith}
use Rattle.own.proofs.records.Laying.{own_nsec}
use Rattle.own.proofs.records.host_nsec.Goals as goal

pub put_host_types-len-requires : goal.put_host_types-len-requires
put_host_types-len-requires c = omega (arith, c.put_host_name-end.ensures.ended, c.put_host_name-end.ensures.few)

pub returns : goal.returns
returns c = own_nsec _ _ _ _ _ _ 71 6 (omega arith) c.put_host_name-end.ensures c.put_host_types-len.ensures
