use Rattle.std.proofs.Common.{◌-◌, length, arith}
use Rattle.trace.proofs.writing.Laid.{take-replicate, piece_laid}
use Rattle.trace.proofs.writing.put_piece.Goals as goal

pub returns : goal.returns
returns c = let a = c.args in
    piece_laid a.out.now a.at a.bytes.now _ _ _ _ (take-replicate (16 - length a.bytes.now) 16 0 (omega arith)) c.put.ensures c.put-2.ensures c.put-3.ensures
