use Rattle.trace.specs.records.Numbers.{bytes16}
use Rattle.trace.specs.writing.Bytes.{headed, pieces_for}
use mathlib.Core.List.{◌++◌}
use lib.ListN.{length}
use Rattle.trace.proofs.writing.Laid.{laid, length-headed, length-txt}
use Rattle.trace.proofs.writing.put_txt.Goals as goal

pub returns : goal.returns
returns c = let a = c.args in
    let n = length a.bytes.now in
    laid a.out.now a.at 11 (headed 8 a.time ++ bytes16 n) (pieces_for a.bytes.now) _ _ (length-txt a.time n)
    (laid a.out.now a.at 9 (headed 8 a.time) (bytes16 n) _ _ (length-headed 8 a.time) c.put_headed.ensures c.put16.ensures)
    c.put_pieces.ensures
