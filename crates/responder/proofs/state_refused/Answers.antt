use Rattle.responder.proofs.Refusing.{told, by-draw, by-setup}
use Rattle.responder.proofs.state_refused.Goals as goal

pub returns-then-not-check_setup : goal.returns-then-not-check_setup
returns-then-not-check_setup c = rw c.if-not-check_setup.true (by-setup _ (told c.check_setup.ensures c.if-not-check_setup.true))

pub returns-else-not-check_setup : goal.returns-else-not-check_setup
returns-else-not-check_setup c = by-draw _ _ (told c.check_setup.ensures c.if-not-check_setup.false) c.start_draw_refused.ensures
