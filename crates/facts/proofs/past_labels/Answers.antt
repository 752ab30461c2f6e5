use native.Mathlib.Omega.{arith}
use Rattle.facts.proofs.Steps.{rests_first, rests_in, rests_root, rests_pointer, rests_label}
use Rattle.facts.proofs.past_labels.Goals as goal

pub loop-here-init : goal.loop-here-init
loop-here-init c = λ bs e h. rests_first _ _ bs e h

pub returns-then-n-eq0 : goal.returns-then-n-eq0
returns-then-n-eq0 c = λ bs e h. rests_root _ _ _ e (c.loop-here.invariant bs e h) (omega arith)

pub returns-then-n-ge192 : goal.returns-then-n-ge192
returns-then-n-ge192 c = λ bs e h. rests_pointer _ _ _ e (c.loop-here.invariant bs e h) (omega arith)

pub loop-here-preserved : goal.loop-here-preserved
loop-here-preserved c = λ bs e h. rests_label _ _ _ e (c.loop-here.invariant bs e h) (λ z. omega arith) (omega arith)

pub returns : goal.returns
returns c = λ bs e h. let k = rests_in _ _ _ e (c.loop-here.invariant bs e h) in absurd (omega arith)
