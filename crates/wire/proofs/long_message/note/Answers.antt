use mathlib.Core.Path.{sym, ◌∙◌}
use native.Mathlib.Omega.{arith}
use Rattle.wire.proofs.name_pieces.Pieces.{label-in, label-room, pointer_in, pointer_back}
use Rattle.wire.proofs.long_message.Notes.{rest_start, rest_label, rest_pointer, rest_fits, rest_is, noted_more}
use Rattle.wire.proofs.long_message.note.Goals as goal

pub loop-n-init : goal.loop-n-init
loop-n-init c = (omega arith, omega arith, c.requires.noted, rest_start _ _ _ c.requires.len_nonzero c.requires.len_value)

pub returns-in-Root : goal.returns-in-Root
returns-in-Root c = c.loop-n.invariant.2

pub overflow_add-here : goal.overflow_add-here
overflow_add-here c = omega (arith, label-in _ _ _ _ _ (sym c.piece_at.ensures ∙ c.in-Label.is))

pub overflow_add-here-in-Label : goal.overflow_add-here-in-Label
overflow_add-here-in-Label c = omega (arith, label-in _ _ _ _ _ (sym c.piece_at.ensures ∙ c.in-Label.is))

pub overflow_add-used-in-Label : goal.overflow_add-used-in-Label
overflow_add-used-in-Label c = omega (arith, label-room _ _ _ _ _ (sym c.piece_at.ensures ∙ c.in-Label.is))

pub loop-n-smaller-in-Label : goal.loop-n-smaller-in-Label
loop-n-smaller-in-Label c = omega (arith, label-room _ _ _ _ _ (sym c.piece_at.ensures ∙ c.in-Label.is))

pub loop-n-preserved-in-Label : goal.loop-n-preserved-in-Label
loop-n-preserved-in-Label c = (
  label-room _ _ _ _ _ (sym c.piece_at.ensures ∙ c.in-Label.is),
  omega arith,
  c.loop-n.invariant.2,
  rest_label _ _ _ _ _ _ c.piece_at.ensures c.loop-n.invariant.3 _ c.in-Label.is,
)

pub bounds-noted-target : goal.bounds-noted-target
bounds-noted-target c = omega (arith, pointer_back _ _ _ _ _ (sym c.piece_at.ensures ∙ c.in-Pointer.is), pointer_in _ _ _ _ _ (sym c.piece_at.ensures ∙ c.in-Pointer.is))

pub returns-then-noted-target-ne0 : goal.returns-then-noted-target-ne0
returns-then-noted-target-ne0 c = c.loop-n.invariant.2

pub overflow_sub-noted : goal.overflow_sub-noted
overflow_sub-noted c = omega (arith, c.loop-n.invariant.3.long)

pub overflow_cast-noted : goal.overflow_cast-noted
overflow_cast-noted c = omega (arith, rest_fits _ _ _ _ c.loop-n.invariant.0 (rest_pointer _ _ _ _ _ _ c.piece_at.ensures c.loop-n.invariant.3 _ c.in-Pointer.is))

pub bounds-noted-target-in-Pointer : goal.bounds-noted-target-in-Pointer
bounds-noted-target-in-Pointer c = omega (arith, pointer_back _ _ _ _ _ (sym c.piece_at.ensures ∙ c.in-Pointer.is), pointer_in _ _ _ _ _ (sym c.piece_at.ensures ∙ c.in-Pointer.is))

pub returns-then-target-last : goal.returns-then-target-last
returns-then-target-last c = noted_more _ _ _ _ c.loop-n.invariant.2 (rest_is _ _ _ _ c.loop-n.invariant.0 (rest_pointer _ _ _ _ _ _ c.piece_at.ensures c.loop-n.invariant.3 _ c.in-Pointer.is))

pub loop-n-smaller : goal.loop-n-smaller
loop-n-smaller c = omega (arith, pointer_back _ _ _ _ _ (sym c.piece_at.ensures ∙ c.in-Pointer.is))

pub loop-n-preserved : goal.loop-n-preserved
loop-n-preserved c = (
  c.loop-n.invariant.0,
  omega arith,
  noted_more _ _ _ _ c.loop-n.invariant.2 (rest_is _ _ _ _ c.loop-n.invariant.0 (rest_pointer _ _ _ _ _ _ c.piece_at.ensures c.loop-n.invariant.3 _ c.in-Pointer.is)),
  rest_pointer _ _ _ _ _ _ c.piece_at.ensures c.loop-n.invariant.3 _ c.in-Pointer.is,
)

pub returns-in-Bad : goal.returns-in-Bad
returns-in-Bad c = c.loop-n.invariant.2
