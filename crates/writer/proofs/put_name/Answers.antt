use native.Mathlib.Omega.{arith}
use mathlib.Core.Path.{sym, ap, ◌∙◌}
use lib.ListN.{length, take}
use lib.Seq.{length-take-le, length-sets}
use Rattle.writer.proofs.Cutting.{kept-fits, kept-long, room-kept, room_noted, room-end, pointer_small, wrote_pointer, wrote_root}
use Rattle.writer.proofs.put_name.Goals as goal

pub slice_bounds-cut_of-end-2 : goal.slice_bounds-cut_of-end-2
slice_bounds-cut_of-end-2 c = sym (length-take-le _ c.args.out.now
    (omega (arith, c.requires.room, c.requires.known_before)))

pub slice_bounds-cut_of-end-4 : goal.slice_bounds-cut_of-end-4
slice_bounds-cut_of-end-4 c = sym (length-take-le _ c.args.places.now
    (omega (arith, c.requires.slots, c.requires.tried_noted)))

pub slice_bounds-front-end : goal.slice_bounds-front-end
slice_bounds-front-end c = kept-long c.args.known
    c.args.at
    c.args.count
    c.args.tried
    c.args.name.now
    c.args.out.now
    c.args.places.now
    c.requires c.cut_of-cut.result c.cut_of-cut.ensures

pub note_starts-noted-requires : goal.note_starts-noted-requires
note_starts-noted-requires c = (
  room_noted c.args.known c.args.at c.args.count
      c.args.tried c.args.name.now c.args.out.now
      c.args.places.now c.requires
      c.cut_of-cut.result
      c.cut_of-cut.ensures,
  omega (
    arith,
    room-kept c.args.known c.args.at c.args.count
        c.args.tried c.args.name.now c.args.out.now
        c.args.places.now c.requires
        c.cut_of-cut.result
        c.cut_of-cut.ensures,
  ),
)

pub overflow_add-end : goal.overflow_add-end
overflow_add-end c = omega (
  arith,
  kept-fits c.args.known c.args.at
      c.args.count c.args.tried
      c.args.name.now c.args.out.now
      c.args.places.now
      c.requires c.cut_of-cut.result
      c.cut_of-cut.ensures,
  c.requires.room,
)

pub overflow_add-o : goal.overflow_add-o
overflow_add-o c = omega (
  arith,
  pointer_small c.args.known c.args.at c.args.count c.args.tried c.args.name.now
      c.args.out.now c.args.places.now c.requires c.cut_of-cut.result
      c.cut_of-cut.ensures _ c.in-Some.is,
)

pub put_u16-requires : goal.put_u16-requires
put_u16-requires c = (
  omega (
    arith,
    room-end c.args.known c.args.at c.args.count c.args.tried c.args.name.now
        c.args.out.now c.args.places.now c.requires c.cut_of-cut.result
        c.cut_of-cut.ensures _ c.in-Some.is,
    ap length c.put.ensures ∙ length-sets
        c.args.out.now c.args.at (take c.cut_of-cut.result.kept c.args.name.now),
  ),
  omega (
    arith,
    pointer_small c.args.known c.args.at c.args.count c.args.tried c.args.name.now
        c.args.out.now c.args.places.now c.requires c.cut_of-cut.result
        c.cut_of-cut.ensures _ c.in-Some.is,
  ),
)

pub overflow_add-result : goal.overflow_add-result
overflow_add-result c = omega (
  arith,
  room-end c.args.known c.args.at
      c.args.count c.args.tried c.args.name.now
      c.args.out.now c.args.places.now c.requires
      c.cut_of-cut.result
      c.cut_of-cut.ensures
      _ c.in-Some.is,
)

pub bounds-out-end : goal.bounds-out-end
bounds-out-end c = omega (
  arith,
  room-end c.args.known
      c.args.at
      c.args.count
      c.args.tried
      c.args.name.now
      c.args.out.now
      c.args.places.now
      c.requires c.cut_of-cut.result
      c.cut_of-cut.ensures _
      c.in-None.is,
  ap length c.put.ensures ∙ length-sets
      c.args.out.now
      c.args.at
      (take c.cut_of-cut.result.kept c.args.name.now),
)

pub overflow_add-result-in-None : goal.overflow_add-result-in-None
overflow_add-result-in-None c = omega (
  arith,
  room-end c.args.known
      c.args.at
      c.args.count
      c.args.tried
      c.args.name.now
      c.args.out.now
      c.args.places.now
      c.requires c.cut_of-cut.result
      c.cut_of-cut.ensures _
      c.in-None.is,
)

pub returns-in-Some : goal.returns-in-Some
returns-in-Some c = wrote_pointer c.args.known c.args.at c.args.count
    c.args.tried c.args.name.now c.args.out.now
    c.args.places.now c.requires
    c.cut_of-cut.result c.cut_of-cut.ensures
    _ _ _ c.put.ensures
    c.note_starts-noted.ensures.value
    c.note_starts-noted.ensures.places_after _
    c.in-Some.is _ c.put_u16.ensures

pub returns-in-None : goal.returns-in-None
returns-in-None c = wrote_root c.args.known
    c.args.at
    c.args.count
    c.args.tried
    c.args.name.now
    c.args.out.now
    c.args.places.now
    c.requires c.cut_of-cut.result c.cut_of-cut.ensures _ _
    _ c.put.ensures c.note_starts-noted.ensures.value
    c.note_starts-noted.ensures.places_after c.in-None.is
