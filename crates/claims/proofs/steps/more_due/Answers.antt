use native.Mathlib.Omega.{arith}
use Rattle.claims.specs.Time.{due_by}
use Rattle.claims.specs.steps.Steps.{steps, step_at, step_due, more_due}
use Rattle.claims.specs.declared.records.Claim.TheVariants.{Instance}
use Rattle.claims.specs.declared.steps.Step.TheVariants.{OfClaim}
use Rattle.claims.proofs.records.Searched.{some-found, some_next, some-ends}
use Rattle.claims.proofs.steps.more_due.Goals as goal

pub returns-then-has_come : goal.returns-then-has_come
unfolding step_at more_due
returns-then-has_come c = let a = c.args in let l = c.loop-i in some-found (λ s. due_by (step_due s a.progress) a.now) steps l.i (OfClaim Instance) (omega arith) _ (rw (c.has_come.ensures, c.step_due.ensures, c.step_at.ensures)) l.invariant c.if-has_come.true

pub loop-i-preserved : goal.loop-i-preserved
unfolding step_at
loop-i-preserved c = let a = c.args in let l = c.loop-i in some_next (λ s. due_by (step_due s a.progress) a.now) steps l.i (OfClaim Instance) (omega arith) _ (rw (c.has_come.ensures, c.step_due.ensures, c.step_at.ensures)) l.invariant c.if-has_come.false

pub returns : goal.returns
unfolding more_due
returns c = let a = c.args in let l = c.loop-i in some-ends (λ s. due_by (step_due s a.progress) a.now) steps l.i l.invariant (omega arith)
