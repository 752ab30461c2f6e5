use mathlib.Core.Path.{refl, sym}
use lib.ListN.{get_or-eq_default}
use Rattle.claims.specs.declared.records.Claim.TheVariants.{Instance}
use Rattle.claims.specs.declared.steps.Step.TheVariants.{OfClaim}
use Rattle.claims.specs.steps.Steps.{steps, step_at}
use Rattle.claims.proofs.steps.step_at.Goals as goal

pub returns-then-i-lt-STEPS : goal.returns-then-i-lt-STEPS
unfolding step_at
returns-then-i-lt-STEPS c = refl

pub returns-else-i-lt-STEPS : goal.returns-else-i-lt-STEPS
unfolding step_at
returns-else-i-lt-STEPS c = sym (get_or-eq_default steps (OfClaim Instance) c.if-i-lt-STEPS.false)
