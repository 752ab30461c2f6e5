-- What a state's bytes say of its claims and of the next step. Assumes nothing: these are definitions.
use Rattle.std.specs.Prelude.{ℕ, true, false, cond, List, eqb, Option, Some, None}
use Rattle.claims.specs.declared.ClaimState.{ClaimState}
use Rattle.claims.specs.Claims.{state_number}
use Rattle.claims.specs.due.Due.{next_due}
use Rattle.responder.specs.declared.State.{State}
use Rattle.capi_responder.specs.codec.Codec.{decode}
use Rattle.capi_responder.specs.declared.state.NextStep.{NextStep}

-- 0 is the instance claim, any other number the host claim
abbrev pub claim_of : State → ℕ → ClaimState
claim_of s claim = cond (eqb claim 0) s.progress.instance s.progress.host

-- 0 waiting, 1 probing, 2 deferred, 3 held, 4 lost
abbrev pub claim_number : List ℕ → ℕ → ℕ
claim_number b claim = state_number (claim_of (decode b) claim)

-- a due time in numbers
abbrev pub step_for : Option ℕ → NextStep
step_for None = record { due = false; time = 0 }
step_for (Some time) = record { due = true; time = time }

abbrev pub next_step : List ℕ → NextStep
next_step b = step_for (next_due (decode b).progress)
