use mathlib.Core.Path.{sym, ◌∙◌}
use native.Mathlib.Omega.{arith}
use Rattle.wire.proofs.name_pieces.Pieces.{is-root, label-in, label-room, pointer_back}
use Rattle.wire.proofs.names.Compare.{is-start, is-root_then, is-label_over, is-label_differs, is-label_on, is-pointer_on, is-bad}
use Rattle.wire.proofs.names.name_is.Goals as goal

pub loop-end-init : goal.loop-end-init
loop-end-init c = (omega arith, omega arith, is-start _ _ _)

pub overflow_add-end : goal.overflow_add-end
overflow_add-end c = omega (arith, is-root _ _ _ _ (sym c.piece_at.ensures ∙ c.in-Root.is))

pub slice_bounds-same_name-end : goal.slice_bounds-same_name-end
slice_bounds-same_name-end c = omega (arith, is-root _ _ _ _ (sym c.piece_at.ensures ∙ c.in-Root.is))

pub returns-in-Root : goal.returns-in-Root
returns-in-Root c = sym (c.loop-end.invariant.2 ∙ sym (is-root_then _ _ _ _ _ _ c.piece_at.ensures c.in-Root.is _ c.same_name.ensures))

pub overflow_add-next : goal.overflow_add-next
overflow_add-next c = omega (arith, label-in _ _ _ _ _ (sym c.piece_at.ensures ∙ c.in-Label.is))

pub overflow_add-next-in-Label : goal.overflow_add-next-in-Label
overflow_add-next-in-Label c = omega (arith, label-in _ _ _ _ _ (sym c.piece_at.ensures ∙ c.in-Label.is))

pub overflow_add-total-in-Label : goal.overflow_add-total-in-Label
overflow_add-total-in-Label c = omega (arith, label-room _ _ _ _ _ (sym c.piece_at.ensures ∙ c.in-Label.is))

pub returns-then-other-total : goal.returns-then-other-total
returns-then-other-total c = sym (c.loop-end.invariant.2 ∙ sym (is-label_over _ _ _ _ _ _ c.piece_at.ensures _ c.in-Label.is c.if-other-total.true))

pub slice_bounds-same_name-end-in-Label : goal.slice_bounds-same_name-end-in-Label
slice_bounds-same_name-end-in-Label c = omega (arith, label-in _ _ _ _ _ (sym c.piece_at.ensures ∙ c.in-Label.is))

pub returns-then-not-same_name : goal.returns-then-not-same_name
returns-then-not-same_name c = sym (c.loop-end.invariant.2 ∙ sym (is-label_differs _ _ _ _ _ _ c.piece_at.ensures _ c.in-Label.is (omega arith) _ c.same_name-in-Label.ensures (c.if-not-same_name.true)))

pub loop-end-preserved-in-Label : goal.loop-end-preserved-in-Label
loop-end-preserved-in-Label c = (label-room _ _ _ _ _ (sym c.piece_at.ensures ∙ c.in-Label.is), omega arith, c.loop-end.invariant.2 ∙ is-label_on _ _ _ _ _ _ c.piece_at.ensures _ c.in-Label.is (omega arith) _ c.same_name-in-Label.ensures (c.if-not-same_name.false))

pub loop-end-smaller : goal.loop-end-smaller
loop-end-smaller c = omega (arith, pointer_back _ _ _ _ _ (sym c.piece_at.ensures ∙ c.in-Pointer.is))

pub loop-end-preserved : goal.loop-end-preserved
loop-end-preserved c = (omega arith, omega arith, c.loop-end.invariant.2 ∙ is-pointer_on _ _ _ _ _ _ c.piece_at.ensures _ c.in-Pointer.is)

pub returns-in-Bad : goal.returns-in-Bad
returns-in-Bad c = sym (c.loop-end.invariant.2 ∙ sym (is-bad _ _ _ _ _ _ c.piece_at.ensures c.in-Bad.is))
