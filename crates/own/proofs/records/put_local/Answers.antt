use Rattle.own.proofs.records.Laying.{laid-local}
use Rattle.own.proofs.records.put_local.Goals as goal

pub returns : goal.returns
returns c = laid-local _ _ _ _ _ c.put_label-end.ensures
