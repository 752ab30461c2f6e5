use Rattle.capi_responder.proofs.idle.Unheld.{Clear}
use Rattle.capi_responder.proofs.idle.none_held.Given as goal

abbrev pub invariant-loop-x : goal.invariant-loop-x
invariant-loop-x l = Clear l.b l.x-index l.clear
