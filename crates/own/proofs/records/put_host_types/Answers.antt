use mathlib.Core.Bool.{true, false}
use Rattle.own.proofs.records.Laying.{laid-host_types}
use Rattle.own.proofs.records.put_host_types.Goals as goal

pub returns-then-aaaa : goal.returns-then-aaaa
returns-then-aaaa c = laid-host_types _ true _ _ _ _ _ c.if-aaaa.true c.put_types.ensures

pub returns-else-aaaa : goal.returns-else-aaaa
returns-else-aaaa c = laid-host_types _ false _ _ _ _ _ c.if-aaaa.false c.put_types-else-aaaa.ensures
