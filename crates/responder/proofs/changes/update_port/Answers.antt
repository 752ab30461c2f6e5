use Rattle.own.specs.changes.Changes.{new_port}
use Rattle.responder.proofs.changes.Changing.{by-data}
use Rattle.responder.proofs.changes.update_port.Goals as goal

pub returns : goal.returns
returns c = let a = c.args in
    by-data a.state a.time (new_port a.port) _ a.out.now _ _ c.with_port-new.ensures c.update.ensures
