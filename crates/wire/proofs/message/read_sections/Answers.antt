use native.Mathlib.Omega.{arith}
use Rattle.wire.proofs.message.Sections.{questions-cut, through_none, through_next, through_cut, through_all}
use Rattle.wire.proofs.message.read_sections.Goals as goal

pub returns-in_default : goal.returns-in_default
returns-in_default c = questions-cut _ _ _ _ _ c.be16-questions.ensures c.be16-answers.ensures c.be16-authorities.ensures c.be16-additionals.ensures _ c.questions_end.ensures c.in_default.is

pub loop-k-init : goal.loop-k-init
loop-k-init c = through_none _ _ _ _

pub returns-in_default-records_end : goal.returns-in_default-records_end
returns-in_default-records_end c = through_cut _ _ c.be16-questions.ensures _ c.questions_end.ensures _ c.in-Some.is _ _ _ _ c.loop-k.invariant (omega arith) _ c.be16.ensures _ c.records_end.ensures c.in_default-records_end.is

pub loop-k-preserved : goal.loop-k-preserved
loop-k-preserved c = through_next _ _ _ _ _ _ c.loop-k.invariant (omega arith) _ c.be16.ensures _ c.records_end.ensures _ c.in-Some-records_end.is

pub returns : goal.returns
returns c = through_all _ _ c.be16-questions.ensures _ c.questions_end.ensures _ c.in-Some.is _ _ _ _ c.loop-k.invariant (omega arith) _ _ _ c.be16-answers.ensures c.be16-authorities.ensures c.be16-additionals.ensures _ _ c.be16-2.ensures c.be16-3.ensures
