use native.Mathlib.Omega.{arith}
use Rattle.own.proofs.records.Laying.{held_in_lem, laid-instance}
use Rattle.own.proofs.records.put_instance_name.Goals as goal

pub put_held-a-requires : goal.put_held-a-requires
put_held-a-requires c = (omega (arith, c.well_formed.1.1.0.1.1.0.1.1.0.1.0.1), omega (arith, c.well_formed.1.1.0.1.1.0.1.1.0.1.0.1))

pub put_service_name-requires : goal.put_service_name-requires
put_service_name-requires c = omega (arith, c.put_held-a.ensures.ended, c.put_held-a.ensures.few, c.well_formed.1.1.0.1.1.0.1.1.0.1.0.1)

pub returns : goal.returns
returns c = laid-instance _ _ _ _ _ _ _ (held_in_lem _ _ c.args.s.instance.len c.args.s.instance.bytes _ _ 63 (c.well_formed.1.1.0.1.1.0.1.1.0.1.0.1) c.put_held-a.ensures) c.put_service_name.ensures
