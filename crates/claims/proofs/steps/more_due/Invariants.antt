use Rattle.claims.specs.Time.{due_by}
use Rattle.claims.specs.steps.Steps.{steps, step_due}
use Rattle.claims.proofs.records.Searched.{Some}
use Rattle.claims.proofs.steps.more_due.Given as goal

abbrev pub invariant-loop-i : goal.invariant-loop-i
invariant-loop-i l = Some (λ s. due_by (step_due s l.progress) l.now) steps l.i
