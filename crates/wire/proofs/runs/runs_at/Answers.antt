use mathlib.Core.Path.{sym, ◌∙◌}
use Prim.Native.Nat.{◌≤◌}
use native.Mathlib.Omega.{arith}
use Rattle.wire.specs.names.Names.{name_at}
use Rattle.wire.proofs.name_pieces.Pieces.{is-root, label-in, label-room, pointer_in, pointer_back}
use Rattle.wire.proofs.names.Walked.{seen_start, seen_label, seen_bad}
use Rattle.wire.proofs.runs.InRuns.{later-most, later-zero, root_span, pointer_span, kept-start, kept_label, kept-pointer, kept-root}
use Rattle.wire.proofs.runs.runs_at.Goals as goal

pub loop-past-init : goal.loop-past-init
loop-past-init c = (omega arith, omega arith, omega arith, omega arith, omega arith, λ z. z, seen_start _ _, kept-start _ _)

pub overflow_add-here : goal.overflow_add-here
overflow_add-here c = omega (arith, is-root _ _ _ _ (sym c.piece_at.ensures ∙ c.in-Root.is))

pub returns-in-Root : goal.returns-in-Root
returns-in-Root c = let l = c.loop-past in
    let a = c.args in
    let is = c.piece_at.ensures in
    let k = c.in-Root.is in record { span = root_span c.args.p.now c.loop-past.start c.loop-past.here c.loop-past.used c.loop-past.end c.loop-past.labels c.loop-past.first _ is k _ c.or_later-past.ensures ∙ sym l.invariant.6; bytes = kept-root a.p.now (name_at a.p.now a.at) l.from l.front l.start l.last l.here l.used _ is l.invariant.7 l.invariant.2 l.invariant.3 l.invariant.4 k }

pub overflow_add-here-in-Label : goal.overflow_add-here-in-Label
overflow_add-here-in-Label c = omega (arith, label-in _ _ _ _ _ (sym c.piece_at.ensures ∙ c.in-Label.is))

pub overflow_add-here-in-Label-2 : goal.overflow_add-here-in-Label-2
overflow_add-here-in-Label-2 c = omega (arith, label-in _ _ _ _ _ (sym c.piece_at.ensures ∙ c.in-Label.is))

pub overflow_add-used-in-Label : goal.overflow_add-used-in-Label
overflow_add-used-in-Label c = omega (arith, label-room _ _ _ _ _ (sym c.piece_at.ensures ∙ c.in-Label.is))

pub loop-past-smaller-in-Label : goal.loop-past-smaller-in-Label
loop-past-smaller-in-Label c = omega (arith, label-room _ _ _ _ _ (sym c.piece_at.ensures ∙ c.in-Label.is))

pub loop-past-preserved-in-Label : goal.loop-past-preserved-in-Label
loop-past-preserved-in-Label c = let l = c.loop-past in
    let a = c.args in
    let is = c.piece_at.ensures in
    let k = c.in-Label.is in (
      label-room _ _ _ _ _ (sym is ∙ k),
      omega arith,
      omega arith,
      omega arith,
      omega arith,
      l.invariant.5,
      l.invariant.6 ∙ seen_label c.args.p.now c.loop-past.start c.loop-past.here c.loop-past.used c.loop-past.end c.loop-past.labels c.loop-past.first _ is _ k _ c.or_later-first.ensures,
      kept_label a.p.now (name_at a.p.now a.at) l.from l.front l.start l.last l.here l.used _ is l.invariant.7 l.invariant.3 l.invariant.4 _ k,
    )

pub overflow_add-here-in-Pointer : goal.overflow_add-here-in-Pointer
overflow_add-here-in-Pointer c = omega (arith, pointer_in _ _ _ _ _ (sym c.piece_at.ensures ∙ c.in-Pointer.is))

pub loop-past-smaller : goal.loop-past-smaller
loop-past-smaller c = omega (arith, pointer_back _ _ _ _ _ (sym c.piece_at.ensures ∙ c.in-Pointer.is))

pub loop-past-preserved : goal.loop-past-preserved
loop-past-preserved c = let l = c.loop-past in
    let a = c.args in
    let is = c.piece_at.ensures in
    let k = c.in-Pointer.is in
    let f = c.first_run-from.ensures in
    let g = c.or_later-front.ensures in
    let m : l.front ≤ l.used = omega arith in (
      l.invariant.0,
      l.invariant.1,
      later-most _ _ _ m g,
      omega arith,
      omega arith,
      later-zero l.front l.used _ g,
      l.invariant.6 ∙ pointer_span c.args.p.now c.loop-past.start c.loop-past.here c.loop-past.used c.loop-past.end c.loop-past.labels c.loop-past.first _ is _ k _ c.or_later-end.ensures,
      kept-pointer a.p.now (name_at a.p.now a.at) l.from l.front l.start l.last l.here l.used _ is l.invariant.7 l.invariant.2 l.invariant.3 l.invariant.5 _ k _ _ f g,
    )

pub returns-in-Bad : goal.returns-in-Bad
returns-in-Bad c = record { span = seen_bad c.args.p.now c.loop-past.start c.loop-past.here c.loop-past.used c.loop-past.end c.loop-past.labels c.loop-past.first _ c.piece_at.ensures c.in-Bad.is ∙ sym c.loop-past.invariant.6; bytes = tt }
