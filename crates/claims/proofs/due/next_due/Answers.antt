use Rattle.std.specs.Prelude.{ℕ, Option}
use Rattle.claims.specs.declared.records.Claim.TheVariants.{Instance}
use Rattle.claims.specs.declared.steps.Step.TheVariants.{OfClaim}
use Rattle.claims.proofs.records.Searched.{rest}
use Prim.Native.Nat.{◌+◌}
use Rattle.claims.specs.steps.Steps.{steps, step_at}
use Rattle.claims.specs.due.Due.{earliest_of, next_due}
use mathlib.Core.Path.{sym, ap, ◌∙◌}
use lib.ListN.{drop, drop_of_length-le}
use native.Mathlib.Omega.{arith}
use Rattle.claims.proofs.due.next_due.Goals as goal

pub loop-i-preserved : goal.loop-i-preserved
unfolding earliest_of step_at
loop-i-preserved c = let a = c.args in let l = c.loop-i in l.invariant ∙ ap (earliest_of a.progress l.first) (rest steps l.i (OfClaim Instance) (omega arith)) ∙ ap (λ (w : Option ℕ). earliest_of a.progress w (drop (l.i + 1) steps)) (sym (c.earlier-first.ensures ∙ rw (c.step_due.ensures, c.step_at.ensures)))

pub returns : goal.returns
unfolding next_due earliest_of
returns c = let a = c.args in let l = c.loop-i in sym (l.invariant ∙ ap (earliest_of a.progress l.first) (drop_of_length-le steps {i = l.i} (omega arith)))
