use Rattle.std.proofs.lemmas.Result.{err_from_is_err_and}
use Rattle.responder.proofs.Refusing.{told, receive-1, receive-2, receive-3, receive-7, receive-read, receive-message}
use Rattle.responder.proofs.admit.Goals as goal

pub returns-then-time_refused : goal.returns-then-time_refused
returns-then-time_refused c = receive-1 _ _ (told c.time_refused.ensures c.if-time_refused.true)

pub returns-then-draws_refused : goal.returns-then-draws_refused
returns-then-draws_refused c = receive-2 _ _ (told c.time_refused.ensures c.if-time_refused.false) (told c.draws_refused.ensures c.if-draws_refused.true)

pub returns-then-rooms_refused : goal.returns-then-rooms_refused
returns-then-rooms_refused c = receive-3 _ _ (told c.time_refused.ensures c.if-time_refused.false) (told c.draws_refused.ensures c.if-draws_refused.false)
    (told c.rooms_refused.ensures c.if-rooms_refused.true)

pub returns-in_err-l : goal.returns-in_err-l
returns-in_err-l c =
    let p = err_from_is_err_and c.from_residual.result c.from_residual.ensures.1 in
    rw (p.1, p.2)
    (receive-message _ _ (told c.time_refused.ensures c.if-time_refused.false) (told c.draws_refused.ensures c.if-draws_refused.false)
    (told c.rooms_refused.ensures c.if-rooms_refused.false) _ c.read_from.ensures _ c.in_err-l.was)

pub returns-then-state_refused : goal.returns-then-state_refused
returns-then-state_refused c = receive-7 _ _ (told c.time_refused.ensures c.if-time_refused.false) (told c.draws_refused.ensures c.if-draws_refused.false)
    (told c.rooms_refused.ensures c.if-rooms_refused.false) _ c.read_from.ensures _ c.in_ok-l.was (told c.state_refused.ensures c.if-state_refused.true)

pub returns : goal.returns
returns c = receive-read _ _ (told c.time_refused.ensures c.if-time_refused.false) (told c.draws_refused.ensures c.if-draws_refused.false)
    (told c.rooms_refused.ensures c.if-rooms_refused.false) _ c.read_from.ensures _ c.in_ok-l.was (told c.state_refused.ensures c.if-state_refused.false)
