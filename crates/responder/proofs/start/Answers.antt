use Rattle.responder.proofs.Settling.{start-refused, starts}
use Rattle.responder.proofs.start.Goals as goal

pub returns-in-Ok : goal.returns-in-Ok
returns-in-Ok c = let all = starts _ _ _ c.admit_start.ensures c.in-Ok.is _ c.start.ensures in record { answer = all.0; number = all.1 }

pub returns-in-Err : goal.returns-in-Err
returns-in-Err c = let all = start-refused _ _ _ c.admit_start.ensures c.in-Err.is _ c.blank_state.ensures in record { answer = all.0; number = all.1 }
