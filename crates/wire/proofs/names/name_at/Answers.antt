use mathlib.Core.Path.{sym, ◌∙◌}
use native.Mathlib.Omega.{arith}
use Rattle.wire.proofs.name_pieces.Pieces.{is-root, label-in, label-room, pointer_in, pointer_back}
use Rattle.wire.proofs.names.Walked.{seen_start, root_seen, seen_label, seen_pointer, seen_bad, passed_first, passed_later}
use Rattle.wire.proofs.names.name_at.Goals as goal

pub loop-n-init : goal.loop-n-init
loop-n-init c = (omega arith, omega arith, seen_start _ _)

pub overflow_add-result : goal.overflow_add-result
overflow_add-result c = omega (arith, is-root _ _ _ _ (sym c.piece_at.ensures ∙ c.in-Root.is))

pub returns-in-Root : goal.returns-in-Root
returns-in-Root c = let l = c.loop-n in
    sym (l.invariant.2 ∙ sym (root_seen c.args.p.now l.start l.here l.used l.end l.labels l.first _ c.piece_at.ensures _ c.or_later.ensures c.in-Root.is))

pub overflow_add-here : goal.overflow_add-here
overflow_add-here c = omega (arith, is-root _ _ _ _ (sym c.piece_at.ensures ∙ c.in-Root.is))

pub overflow_add-here-in-Label-2 : goal.overflow_add-here-in-Label-2
overflow_add-here-in-Label-2 c = omega (arith, label-in _ _ _ _ _ (sym c.piece_at.ensures ∙ c.in-Label.is))

pub overflow_add-here-in-Label : goal.overflow_add-here-in-Label
overflow_add-here-in-Label c = omega (arith, label-in _ _ _ _ _ (sym c.piece_at.ensures ∙ c.in-Label.is))

pub overflow_add-used-in-Label : goal.overflow_add-used-in-Label
overflow_add-used-in-Label c = omega (arith, label-room _ _ _ _ _ (sym c.piece_at.ensures ∙ c.in-Label.is))

pub loop-n-smaller-in-Label : goal.loop-n-smaller-in-Label
loop-n-smaller-in-Label c = omega (arith, label-room _ _ _ _ _ (sym c.piece_at.ensures ∙ c.in-Label.is))

pub loop-n-preserved-in-Label : goal.loop-n-preserved-in-Label
loop-n-preserved-in-Label c = (
  label-room _ _ _ _ _ (sym c.piece_at.ensures ∙ c.in-Label.is),
  omega arith,
  c.loop-n.invariant.2
      ∙ seen_label c.args.p.now c.loop-n.start c.loop-n.here c.loop-n.used c.loop-n.end c.loop-n.labels c.loop-n.first _ c.piece_at.ensures _ c.in-Label.is _ c.or_later-first.ensures,
)

pub overflow_add-end : goal.overflow_add-end
overflow_add-end c = omega (arith, pointer_in _ _ _ _ _ (sym c.piece_at.ensures ∙ c.in-Pointer.is))

pub loop-n-smaller-then-end-eq0 : goal.loop-n-smaller-then-end-eq0
loop-n-smaller-then-end-eq0 c = omega (arith, pointer_back _ _ _ _ _ (sym c.piece_at.ensures ∙ c.in-Pointer.is))

pub loop-n-preserved-then-end-eq0 : goal.loop-n-preserved-then-end-eq0
loop-n-preserved-then-end-eq0 c = (omega arith, omega arith, c.loop-n.invariant.2 ∙ seen_pointer c.args.p.now c.loop-n.start c.loop-n.here c.loop-n.used c.loop-n.end c.loop-n.labels c.loop-n.first _ c.piece_at.ensures _ c.in-Pointer.is ∙ sym (passed_first c.args.p.now c.in-Pointer.target c.loop-n.here c.loop-n.used c.loop-n.end c.loop-n.labels c.loop-n.first c.if-end-eq0.true))

pub loop-n-smaller : goal.loop-n-smaller
loop-n-smaller c = omega (arith, pointer_back _ _ _ _ _ (sym c.piece_at.ensures ∙ c.in-Pointer.is))

pub loop-n-preserved : goal.loop-n-preserved
loop-n-preserved c = (omega arith, omega arith, c.loop-n.invariant.2 ∙ seen_pointer c.args.p.now c.loop-n.start c.loop-n.here c.loop-n.used c.loop-n.end c.loop-n.labels c.loop-n.first _ c.piece_at.ensures _ c.in-Pointer.is ∙ sym (passed_later c.args.p.now c.in-Pointer.target c.loop-n.here c.loop-n.used c.loop-n.end c.loop-n.labels c.loop-n.first c.if-end-eq0.false))

pub returns-in-Bad : goal.returns-in-Bad
returns-in-Bad c = sym (c.loop-n.invariant.2 ∙ sym (seen_bad c.args.p.now c.loop-n.start c.loop-n.here c.loop-n.used c.loop-n.end c.loop-n.labels c.loop-n.first _ c.piece_at.ensures c.in-Bad.is))
