use Prim.Native.Nat.{◌+◌}
use mathlib.Core.Path.{sym}
use native.Mathlib.Omega.{arith}
use Rattle.wire.proofs.name_pieces.Pieces.{piece_past, piece_root, piece_long, piece_full, piece_label, piece_reserved, piece_short, piece_header, piece_forward, piece_pointer}
use Rattle.wire.proofs.name_pieces.piece_at.Goals as goal

pub returns-then-p-at : goal.returns-then-p-at
returns-then-p-at c = sym (piece_past _ _ _ _ c.if-p-at.true)

pub returns-then-n-eq0 : goal.returns-then-n-eq0
returns-then-n-eq0 c = sym (piece_root _ _ _ _ (omega arith) (omega arith))

pub returns-then-p-at-2 : goal.returns-then-p-at-2
returns-then-p-at-2 c = sym (piece_long _ _ _ _ (omega arith) (omega arith) (omega arith) (omega arith))

pub returns-then-used-ge-MOST_NAME : goal.returns-then-used-ge-MOST_NAME
returns-then-used-ge-MOST_NAME c = sym (piece_full _ _ _ _ (omega arith) (omega arith) (omega arith) (omega arith) (omega arith))

pub returns-then-used-n-ge-MOST_NAME : goal.returns-then-used-n-ge-MOST_NAME
returns-then-used-n-ge-MOST_NAME c = sym (piece_full _ _ _ _ (omega arith) (omega arith) (omega arith) (omega arith) (omega arith))

pub returns-then-n-lt64 : goal.returns-then-n-lt64
returns-then-n-lt64 c = sym (piece_label _ _ _ _ (omega arith) (omega arith) (omega arith) (omega arith) (omega arith))

pub returns-then-n-lt192 : goal.returns-then-n-lt192
returns-then-n-lt192 c = sym (piece_reserved _ _ _ _ (omega arith) (omega arith) (omega arith) (omega arith))

pub returns-then-p-next : goal.returns-then-p-next
returns-then-p-next c = sym (piece_short _ _ _ _ (omega arith) (omega arith) (omega arith))

pub overflow_add-target : goal.overflow_add-target
overflow_add-target c = omega (arith, c.shared_slice_known-2-1.given (c.args.at + 1))

pub returns-then-target-lt12 : goal.returns-then-target-lt12
returns-then-target-lt12 c = sym (piece_header _ _ _ _ (omega arith) (omega arith) (omega arith) c.if-target-lt12.true)

pub returns-then-start-target : goal.returns-then-start-target
returns-then-start-target c = sym (piece_forward _ _ _ _ (omega arith) (omega arith) (omega arith) (omega arith) (omega arith))

pub returns : goal.returns
returns c = sym (piece_pointer _ _ _ _ (omega arith) (omega arith) (omega arith) (omega arith) (omega arith))
