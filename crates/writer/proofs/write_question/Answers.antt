use native.Mathlib.Omega.{arith}
use Rattle.writer.proofs.Parts.{question-front, name-ready, first-room, question-room, question-grown}
use Rattle.writer.proofs.write_question.Goals as goal

pub put_name-a-requires : goal.put_name-a-requires
put_name-a-requires c = let a = c.args in
    let room = question-front a.at a.count a.name.now a.out.now a.places.now c.requires in
    name-ready a.at a.count a.name.now 4 0 a.out.now a.places.now room

pub put_u16-requires : goal.put_u16-requires
put_u16-requires c = let a = c.args in
    let room = question-front a.at a.count a.name.now a.out.now a.places.now c.requires in (
      omega (
        arith,
        first-room a.at a.count a.name.now 4 0 a.out.now a.places.now room
            c.put_name-a.result _ _ c.put_name-a.ensures,
      ),
      omega arith,
    )

pub overflow_add-a : goal.overflow_add-a
overflow_add-a c = let a = c.args in
    let room = question-front a.at a.count a.name.now a.out.now a.places.now c.requires in
    omega (
      arith,
      first-room a.at a.count a.name.now 4 0 a.out.now a.places.now room
          c.put_name-a.result _ _
          c.put_name-a.ensures,
    )

pub put_u16-requires-2 : goal.put_u16-requires-2
put_u16-requires-2 c = let a = c.args in
    let room = question-front a.at a.count a.name.now a.out.now a.places.now c.requires in (
      omega (
        arith,
        question-room a.at a.count a.name.now 4 0 a.out.now a.places.now room
            c.put_name-a.result _ _
            c.put_name-a.ensures _ 0 _ c.put_u16.ensures
            (omega arith),
      ),
      omega arith,
    )

pub overflow_add-result : goal.overflow_add-result
overflow_add-result c = let a = c.args in
    let room = question-front a.at a.count a.name.now a.out.now a.places.now
    c.requires in
    omega (
      arith,
      first-room a.at a.count a.name.now 4 0 a.out.now a.places.now room c.put_name-a.result _ _
          c.put_name-a.ensures,
    )

pub returns : goal.returns
returns c = let a = c.args in
    let room = question-front a.at a.count a.name.now a.out.now a.places.now
    c.requires in
    question-grown a.at a.count a.name.now 4 0 a.out.now a.places.now room c.put_name-a.result _ _
    c.put_name-a.ensures _ _ _ c.put_u16.ensures (omega arith) _
    c.put_u16-2.ensures
