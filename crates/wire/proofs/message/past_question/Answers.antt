use mathlib.Core.Path.{◌∙◌}
use Rattle.wire.proofs.message.Fields.{past_question_bad, past_question_found}
use Rattle.wire.proofs.message.past_question.Goals as goal

pub returns : goal.returns
returns c = past_question_found _ _ _ _ c.question_at.ensures c.in_ok-q.was

pub returns-in_err-q : goal.returns-in_err-q
returns-in_err-q c = c.from_residual.ensures ∙ past_question_bad _ _ _ c.question_at.ensures c.in_err-q.was
