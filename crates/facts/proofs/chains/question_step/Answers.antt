use native.Mathlib.Omega.{arith}
use Rattle.facts.proofs.chains.Walked.{question-stepped, question-room, question-unread}
use Rattle.facts.proofs.chains.question_step.Goals as goal

pub returns-then-ends-eq0 : goal.returns-then-ends-eq0
returns-then-ends-eq0 c = question-stepped _ _ _ c.question_at.ensures

pub overflow_add-end : goal.overflow_add-end
overflow_add-end c = omega (arith, question-room _ _ _ c.past_labels-end.ensures (c.requires (omega arith)))

pub overflow_add-result : goal.overflow_add-result
overflow_add-result c = omega (arith, question-room _ _ _ c.past_labels-end.ensures (c.requires (omega arith)))

pub returns : goal.returns
returns c = question-unread _ _ _ c.past_labels-end.ensures (c.requires (omega arith)) _ _ c.be16.ensures c.be16-2.ensures
