use Rattle.responder.specs.Calls.{blank}
use Rattle.responder.proofs.blank_state.Goals as goal

pub returns : goal.returns
unfolding blank
returns c = simp (c.no_holds.ensures, c.never_sent.ensures)
