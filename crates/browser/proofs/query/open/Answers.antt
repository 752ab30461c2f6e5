use Rattle.browser.specs.service.Service.{service_name}
use Rattle.browser.proofs.service.Names.{name-front, name-long, name-fits}
use Rattle.browser.proofs.query.Composing.{open_not, open_done, open_misfit}
use Rattle.browser.proofs.query.open.Goals as goal

pub returns-then-not-asks : goal.returns-then-not-asks
returns-then-not-asks c = open_not c.args.asks c.args.b _ _ c.requires.1
    (c.if-not-asks.true)

pub slice_bounds-bytes-end : goal.slice_bounds-bytes-end
slice_bounds-bytes-end c = name-fits (service_name c.args.b) _
    c.service_name-name.ensures

pub slice_bounds-put_question-end : goal.slice_bounds-put_question-end
slice_bounds-put_question-end c = name-long (service_name c.args.b) _
    c.service_name-name.ensures

pub returns-in-Ok : goal.returns-in-Ok
returns-in-Ok c = open_done c.args.asks c.args.b c.requires.0 c.args.out.now c.args.places.now c.requires.1 (c.if-not-asks.false) _ (name-front (service_name c.args.b) _ c.service_name-name.ensures) _ _ _ c.put_question.ensures _ c.in-Ok.is

pub returns-in-Err : goal.returns-in-Err
returns-in-Err c = open_misfit c.args.asks c.args.b c.requires.0 c.args.out.now c.args.places.now c.requires.1 (c.if-not-asks.false) _ (name-front (service_name c.args.b) _ c.service_name-name.ensures) _ _ _ c.put_question.ensures _ c.in-Err.is
