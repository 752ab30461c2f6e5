use Rattle.std.proofs.lemmas.Result.{err_from_is_err_and}
use Rattle.trace.proofs.reading.Begun.{with-data_of}
use Rattle.trace.proofs.reading.with_data.Goals as goal

pub returns-in_err-next : goal.returns-in_err-next
returns-in_err-next c = let a = c.args in
    let p = err_from_is_err_and c.from_residual.result c.from_residual.ensures.1 in
    rw (p.1, p.2) (with-data_of a.trace.now a.event a.first a.len _ _ c.pieces_end.ensures c.in_err-next.was)

pub returns : goal.returns
returns c = let a = c.args in with-data_of a.trace.now a.event a.first a.len _ _ c.pieces_end.ensures c.in_ok-next.was
