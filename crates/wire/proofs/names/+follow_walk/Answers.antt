use mathlib.Core.Path.{sym, ◌∙◌}
use native.Mathlib.Omega.{arith}
use Rattle.wire.proofs.name_pieces.Pieces.{is-root, label-in, label-room, pointer_in, pointer_back}
use Rattle.wire.proofs.names.Walked.{wrote_bad, wrote_root, wrote_label, wrote_pointer, followed, followed_bad}
use Rattle.wire.proofs.names.+follow_walk.Goals as goal

pub follow-walk-requires : goal.follow-walk-requires
follow-walk-requires t c = (omega (arith, c.chase-run.ensures.chain.back), omega arith)

pub follow-returns : goal.follow-returns
follow-returns t c = followed _ _ _ _ _ c.chase-run.ensures.chain _ _ _ c.walk.ensures _ c.in_ok-reach.was

pub follow-returns-in_err-reach : goal.follow-returns-in_err-reach
follow-returns-in_err-reach t c = rw c.from_residual.ensures (followed_bad _ _ _ _ _ c.chase-run.ensures.chain _ _ _ c.walk.ensures c.in_err-reach.was)

pub walk-overflow_add-result : goal.walk-overflow_add-result
walk-overflow_add-result t c = omega (arith, is-root _ _ _ _ (sym c.piece_at.ensures ∙ c.in-Root.is))

pub walk-overflow_add-next : goal.walk-overflow_add-next
walk-overflow_add-next t c = omega (arith, label-in _ _ _ _ _ (sym c.piece_at.ensures ∙ c.in-Label.is))

pub walk-overflow_add-next-in-Label : goal.walk-overflow_add-next-in-Label
walk-overflow_add-next-in-Label t c = omega (arith, label-in _ _ _ _ _ (sym c.piece_at.ensures ∙ c.in-Label.is))

pub walk-slice_bounds-put-end-in-Label : goal.walk-slice_bounds-put-end-in-Label
walk-slice_bounds-put-end-in-Label t c = omega (arith, label-in _ _ _ _ _ (sym c.piece_at.ensures ∙ c.in-Label.is))

pub walk-overflow_add-used-in-Label : goal.walk-overflow_add-used-in-Label
walk-overflow_add-used-in-Label t c = omega (arith, label-room _ _ _ _ _ (sym c.piece_at.ensures ∙ c.in-Label.is))

pub walk-walk-requires : goal.walk-walk-requires
walk-walk-requires t c = (omega (arith, label-room _ _ _ _ _ (sym c.piece_at.ensures ∙ c.in-Label.is)), label-room _ _ _ _ _ (sym c.piece_at.ensures ∙ c.in-Label.is))

pub walk-follow-requires : goal.walk-follow-requires
walk-follow-requires t c = (omega (arith, pointer_back _ _ _ _ _ (sym c.piece_at.ensures ∙ c.in-Pointer.is)), (omega arith, pointer_in _ _ _ _ _ (sym c.piece_at.ensures ∙ c.in-Pointer.is)))

pub walk-returns-in-Root : goal.walk-returns-in-Root
walk-returns-in-Root t c = wrote_root _ _ _ _ _ c.piece_at.ensures _ c.in-Root.is

pub walk-returns-in-Label : goal.walk-returns-in-Label
walk-returns-in-Label t c = wrote_label _ _ _ _ _ c.piece_at.ensures _ _ _ _ _ c.in-Label.is c.put.ensures c.walk.ensures

pub walk-returns-in-Pointer : goal.walk-returns-in-Pointer
walk-returns-in-Pointer t c = wrote_pointer _ _ _ _ _ c.piece_at.ensures _ _ _ _ c.in-Pointer.is c.follow.ensures

pub walk-returns-in-Bad : goal.walk-returns-in-Bad
walk-returns-in-Bad t c = wrote_bad _ _ _ _ _ c.piece_at.ensures _ _ c.in-Bad.is
