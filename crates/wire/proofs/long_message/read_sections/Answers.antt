use native.Mathlib.Omega.{arith}
use Rattle.wire.proofs.long_message.Notes.{noted_none}
use Rattle.wire.proofs.message.Sections.{questions-cut, answers_cut, authorities_cut, additionals_cut, sections_read}
use Rattle.wire.proofs.long_message.read_sections.Goals as goal

pub questions_end-requires : goal.questions_end-requires
questions_end-requires c = record { p_len_bound = omega arith; noted = noted_none _ 8972 }

pub returns-in_default : goal.returns-in_default
returns-in_default c = questions-cut _ _ _ _ _ c.be16-questions.ensures c.be16-answers.ensures c.be16-authorities.ensures c.be16-additionals.ensures _ c.questions_end.ensures.answer c.in_default.is

pub returns-in_default-records_end : goal.returns-in_default-records_end
returns-in_default-records_end c = answers_cut _ _ _ _ _ c.be16-questions.ensures c.be16-answers.ensures c.be16-authorities.ensures c.be16-additionals.ensures _ c.questions_end.ensures.answer _ c.in-Some.is _ c.records_end.ensures.answer c.in_default-records_end.is

pub returns-in_default-records_end-2 : goal.returns-in_default-records_end-2
returns-in_default-records_end-2 c = authorities_cut _ _ _ _ _ c.be16-questions.ensures c.be16-answers.ensures c.be16-authorities.ensures c.be16-additionals.ensures _ c.questions_end.ensures.answer _ c.in-Some.is _ c.records_end.ensures.answer _ c.in-Some-records_end.is _ c.records_end-2.ensures.answer c.in_default-records_end-2.is

pub returns-in_default-records_end-3 : goal.returns-in_default-records_end-3
returns-in_default-records_end-3 c = additionals_cut _ _ _ _ _ c.be16-questions.ensures c.be16-answers.ensures c.be16-authorities.ensures c.be16-additionals.ensures _ c.questions_end.ensures.answer _ c.in-Some.is _ c.records_end.ensures.answer _ c.in-Some-records_end.is _ c.records_end-2.ensures.answer _ c.in-Some-records_end-2.is _ c.records_end-3.ensures.answer c.in_default-records_end-3.is

pub returns : goal.returns
returns c = sections_read _ _ _ _ _ c.be16-questions.ensures c.be16-answers.ensures c.be16-authorities.ensures c.be16-additionals.ensures _ c.questions_end.ensures.answer _ c.in-Some.is _ c.records_end.ensures.answer _ c.in-Some-records_end.is _ c.records_end-2.ensures.answer _ c.in-Some-records_end-2.is _ c.records_end-3.ensures.answer _ c.in-Some-records_end-3.is _ _ c.be16.ensures c.be16-2.ensures
