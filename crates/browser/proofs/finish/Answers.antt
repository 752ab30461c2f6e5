use Rattle.browser.proofs.Finishing.{finish_owed, finish_quiet, finish_asked}
use Rattle.browser.proofs.finish.Goals as goal

pub returns-then-owed-gt0 : goal.returns-then-owed-gt0
returns-then-owed-gt0 c = finish_owed _ _ _ _ _ _ _ c.if-owed-gt0.true _ _
    c.write-w.ensures _ c.stop_at-stop.ensures _ c.is_more.ensures _ c.resume.ensures

pub returns-then-time-next : goal.returns-then-time-next
returns-then-time-next c = finish_quiet _ _ _ _ _ _ _ c.if-owed-gt0.false c.if-time-next.true _ c.resume-then-time-next.ensures

pub returns : goal.returns
returns c = finish_asked _ _ _ _ _ _ _ c.if-owed-gt0.false
    c.if-time-next.false _ _ c.write-w-2.ensures _
    c.stop_at-stop-2.ensures _ c.is_more-2.ensures _ c.ask.ensures
