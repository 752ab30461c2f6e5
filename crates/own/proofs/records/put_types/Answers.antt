use Rattle.own.proofs.records.Laying.{laid-types}
use Rattle.own.proofs.records.put_types.Goals as goal

pub returns : goal.returns
returns c = laid-types _ _ _ _ c.put.ensures
