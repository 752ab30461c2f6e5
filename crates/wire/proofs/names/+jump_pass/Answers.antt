use mathlib.Core.Path.{sym, ◌∙◌}
use native.Mathlib.Omega.{arith}
use Rattle.wire.proofs.name_pieces.Pieces.{is-root, label-in, label-room, pointer_in, pointer_back}
use Rattle.wire.proofs.names.Walked.{root_seen, seen_label, seen_pointer, seen_bad, passed, passed_chain}
use Rattle.wire.proofs.names.+jump_pass.Goals as goal

pub jump-returns : goal.jump-returns
jump-returns t c = let a = c.args in
    c.pass.ensures ∙ passed a.p.now c.chase-run.result a.at a.used a.end a.labels a.first _ c.or_later.ensures
    ∙ passed_chain a.p.now c.chase-run.result a.at a.used a.end a.labels a.first _ c.chase-run.ensures.chain

pub pass-overflow_add-at : goal.pass-overflow_add-at
pass-overflow_add-at t c = omega (arith, is-root _ _ _ _ (sym c.piece_at.ensures ∙ c.in-Root.is))

pub pass-overflow_add-result : goal.pass-overflow_add-result
pass-overflow_add-result t c = omega (arith, is-root _ _ _ _ (sym c.piece_at.ensures ∙ c.in-Root.is))

pub pass-returns-in-Root : goal.pass-returns-in-Root
pass-returns-in-Root t c = let a = c.args in
    root_seen a.p.now a.start a.at a.used a.end a.labels a.first _ c.piece_at.ensures _ c.or_later.ensures c.in-Root.is

pub pass-overflow_add-at-in-Label-2 : goal.pass-overflow_add-at-in-Label-2
pass-overflow_add-at-in-Label-2 t c = omega (arith, label-in _ _ _ _ _ (sym c.piece_at.ensures ∙ c.in-Label.is))

pub pass-overflow_add-at-in-Label : goal.pass-overflow_add-at-in-Label
pass-overflow_add-at-in-Label t c = omega (arith, label-in _ _ _ _ _ (sym c.piece_at.ensures ∙ c.in-Label.is))

pub pass-overflow_add-used-in-Label : goal.pass-overflow_add-used-in-Label
pass-overflow_add-used-in-Label t c = omega (arith, label-room _ _ _ _ _ (sym c.piece_at.ensures ∙ c.in-Label.is))

pub pass-pass-requires : goal.pass-pass-requires
pass-pass-requires t c = let room = label-room _ _ _ _ _ (sym c.piece_at.ensures ∙ c.in-Label.is) in (omega (arith, room), (room, omega arith))

pub pass-jump-requires : goal.pass-jump-requires
pass-jump-requires t c = (omega (arith, pointer_back _ _ _ _ _ (sym c.piece_at.ensures ∙ c.in-Pointer.is)), (omega arith, (omega arith, pointer_in _ _ _ _ _ (sym c.piece_at.ensures ∙ c.in-Pointer.is))))

pub pass-returns-in-Label : goal.pass-returns-in-Label
pass-returns-in-Label t c = c.pass.ensures ∙ sym (seen_label c.args.p.now c.args.start c.args.at c.args.used c.args.end c.args.labels c.args.first _ c.piece_at.ensures _ c.in-Label.is _ c.or_later-one.ensures)

pub pass-returns-in-Pointer : goal.pass-returns-in-Pointer
pass-returns-in-Pointer t c = c.jump.ensures ∙ sym (seen_pointer c.args.p.now c.args.start c.args.at c.args.used c.args.end c.args.labels c.args.first _ c.piece_at.ensures _ c.in-Pointer.is)

pub pass-returns-in-Bad : goal.pass-returns-in-Bad
pass-returns-in-Bad t c = seen_bad c.args.p.now c.args.start c.args.at c.args.used c.args.end c.args.labels c.args.first _ c.piece_at.ensures c.in-Bad.is
