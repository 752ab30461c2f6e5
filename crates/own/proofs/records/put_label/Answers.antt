use Rattle.own.proofs.records.Laying.{laid-label}
use Rattle.own.proofs.records.put_label.Goals as goal

pub returns : goal.returns
returns c = laid-label _ _ c.args.label.now _ c.put.ensures
