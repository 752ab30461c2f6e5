use Rattle.trace.specs.writing.Bytes.{headed, packet_numbers, pieces_for}
use mathlib.Core.List.{◌++◌}
use lib.ListN.{length}
use Rattle.trace.proofs.writing.Laid.{laid, length-headed, length-packet}
use Rattle.trace.proofs.writing.put_packet.Goals as goal

pub returns : goal.returns
returns c = let a = c.args in
    let n = length a.bytes.now in
    laid a.out.now a.at 14 (headed 2 a.time ++ packet_numbers a.port a.draw n) (pieces_for a.bytes.now) _ _ (length-packet a.time a.port a.draw n)
    (laid a.out.now a.at 9 (headed 2 a.time) (packet_numbers a.port a.draw n) _ _ (length-headed 2 a.time) c.put_headed.ensures c.put_numbers.ensures)
    c.put_pieces.ensures
