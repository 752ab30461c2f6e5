use Rattle.std.proofs.Common.{arith, ap, ◌∙◌}
use Rattle.std.specs.Prelude.{Some}
use Rattle.trace.proofs.reading.Owed.{told-whole, piece_full, piece_padded, piece_other, piece_none}
use Rattle.trace.proofs.reading.is_piece.Goals as goal

pub returns-in_default : goal.returns-in_default
returns-in_default c = piece_none _ _ _ _ c.record_at.ensures c.in_default.is

pub returns-in_default-record : goal.returns-in_default-record
returns-in_default-record c = piece_other _ _ _ _ c.record_at.ensures _ c.in-Some.is c.in_default-record.not-Piece

pub returns-then-left-ge-PIECE_BYTES : goal.returns-then-left-ge-PIECE_BYTES
returns-then-left-ge-PIECE_BYTES c = piece_full _ _ _ _ c.record_at.ensures (c.in-Some.is ∙ ap Some c.in-Piece.is) c.if-left-ge-PIECE_BYTES.true

pub overflow_add-from : goal.overflow_add-from
overflow_add-from c = omega (arith, told-whole _ _ c.args.left _ c.record_at.ensures (c.in-Some.is ∙ ap Some c.in-Piece.is))

pub overflow_add-from-2 : goal.overflow_add-from-2
overflow_add-from-2 c = omega (arith, told-whole _ _ c.args.left _ c.record_at.ensures (c.in-Some.is ∙ ap Some c.in-Piece.is))

pub overflow_add-end : goal.overflow_add-end
overflow_add-end c = omega (arith, told-whole _ _ c.args.left _ c.record_at.ensures (c.in-Some.is ∙ ap Some c.in-Piece.is))

pub slice_bounds-all_zero-end : goal.slice_bounds-all_zero-end
slice_bounds-all_zero-end c = omega (arith, told-whole _ _ c.args.left _ c.record_at.ensures (c.in-Some.is ∙ ap Some c.in-Piece.is))

pub returns : goal.returns
returns c = piece_padded _ _ _ _ c.record_at.ensures (c.in-Some.is ∙ ap Some c.in-Piece.is) _ c.all_zero.ensures
