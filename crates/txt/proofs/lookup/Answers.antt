use Rattle.txt.proofs.Parts.{looked_up}
use Rattle.txt.proofs.lookup.Goals as goal

pub returns : goal.returns
returns c =
    let a = c.args in
    let e = c.answer_for-answer.ensures in
    let p = c.part_of.ensures in
    let all = looked_up a.key.now a.received.now a.factory.now a.received.ref_ptr a.factory.ref_ptr c.answer_for-answer.result e.answer c.part_of.result.now c.part_of.result.ref_ptr (p.bytes, p.start) in
    record { answer = e.answer; number = e.number; bytes = all.0; start = all.1 }
