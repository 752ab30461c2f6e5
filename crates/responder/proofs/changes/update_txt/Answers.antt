use Rattle.own.specs.changes.Changes.{new_txt}
use Rattle.responder.proofs.changes.Changing.{by-data}
use Rattle.responder.proofs.changes.update_txt.Goals as goal

pub returns : goal.returns
returns c = let a = c.args in
    by-data a.state a.time (new_txt a.txt.now) _ a.out.now _ _ c.with_txt-new.ensures c.update.ensures
