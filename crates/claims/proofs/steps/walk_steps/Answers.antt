use Rattle.claims.specs.declared.records.Claim.TheVariants.{Instance}
use Rattle.claims.specs.declared.steps.Step.{Step}
use Rattle.claims.specs.declared.steps.Step.TheVariants.{OfClaim}
use Rattle.claims.proofs.steps.Walk.{walk_sends, walk_passes, walk_ends}
use Rattle.claims.specs.steps.Steps.{steps, step_at}
use Rattle.claims.specs.steps.Tick.{step_turn}
use mathlib.Core.Path.{sym, ap, ◌∙◌}
use native.Mathlib.Omega.{arith}
use Rattle.claims.proofs.steps.walk_steps.Goals as goal

pub returns-in-Probe : goal.returns-in-Probe
unfolding step_at
returns-in-Probe c = let a = c.args in let l = c.loop-i in walk_sends steps a.aaaa a.now l.here l.i (OfClaim Instance) (omega arith) _ (c.step_turn-t.ensures ∙ ap (λ (s : Step). step_turn s a.aaaa a.now l.here) c.step_at.ensures) c.in-Probe.is ∙ sym c.loop-i.invariant

pub loop-i-preserved : goal.loop-i-preserved
unfolding step_at
loop-i-preserved c = c.loop-i.invariant ∙ let a = c.args in let l = c.loop-i in (walk_passes steps a.aaaa a.now l.here l.i (OfClaim Instance) (omega arith) _ (c.step_turn-t.ensures ∙ ap (λ (s : Step). step_turn s a.aaaa a.now l.here) c.step_at.ensures) c.in-Nothing.is)

pub returns : goal.returns
returns c = let a = c.args in let l = c.loop-i in sym (l.invariant ∙ walk_ends steps a.aaaa a.now l.here l.i (omega arith))
