use Rattle.txt.proofs.Use.{numbered}
use Rattle.txt.proofs.Whole.{is-refused, is-factory, is-received}
use Rattle.txt.proofs.answer_for.Goals as goal

pub returns-in-Err : goal.returns-in-Err
returns-in-Err c = let all = numbered _ _ _ _ (is-refused _ _ _ _ _ c.number.ensures c.in-Err.ensures) in record { answer = all.0; number = all.1 }

pub returns-in-Absent : goal.returns-in-Absent
returns-in-Absent c =
    let all = numbered _ _ _ _ (is-factory _ _ _ _ c.in_default.ensures _ c.find-answer.ensures c.in-Absent.is _ c.find.ensures) in
    record { answer = all.0; number = all.1 }

pub returns-in_default-answer : goal.returns-in_default-answer
returns-in_default-answer c =
    let all = numbered _ _ _ _ (is-received _ _ _ _ c.in_default.ensures _ c.find-answer.ensures c.in_default-answer.not-Absent) in
    record { answer = all.0; number = all.1 }
