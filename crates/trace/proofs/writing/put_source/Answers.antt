use Rattle.trace.specs.records.Numbers.{bytes16, bytes64}
use Rattle.trace.specs.writing.Bytes.{headed}
use mathlib.Core.List.{◌++◌}
use Rattle.trace.proofs.writing.Laid.{laid, length-headed, length_high}
use Rattle.trace.proofs.writing.put_source.Goals as goal

pub returns : goal.returns
returns c = let a = c.args in
    laid a.out.now a.at 17 (headed 5 a.from.high ++ bytes64 a.from.low) (bytes16 a.hold) _ _ (length_high a.from.high a.from.low)
    (laid a.out.now a.at 9 (headed 5 a.from.high) (bytes64 a.from.low) _ _ (length-headed 5 a.from.high) c.put_headed.ensures c.put64.ensures)
    c.put16.ensures
