use Rattle.capi_responder.proofs.encoder.Written.{Writing}
use Rattle.capi_responder.proofs.encoder.put_multicasts.Given as goal

abbrev pub invariant-loop-i : goal.invariant-loop-i
invariant-loop-i l = Writing l.sent l.initial.out l.out l.i
