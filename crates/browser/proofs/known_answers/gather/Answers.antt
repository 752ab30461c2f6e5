use Rattle.std.proofs.Common.{◌+◌, ◌<◌, length, drop, sym, ap, ◌∙◌, arith}
use Rattle.browser.specs.declared.known_answers.Plan.{Plan}
use Rattle.browser.specs.known_answers.Plans.{plan_from}
use Rattle.browser.proofs.known_answers.Gathering.{gather_on, gather_end}
use Rattle.browser.proofs.known_answers.gather.Goals as goal

pub loop-i-init : goal.loop-i-init
loop-i-init c =
    ap (λ (p : Plan). plan_from c.args.time c.args.store.now c.args.b c.args.from (drop c.args.from c.args.table.now) p) c.no_plan-plan.ensures

pub loop-i-preserved : goal.loop-i-preserved
loop-i-preserved c =
    let less : c.loop-i.i < length c.args.table.now = omega (arith) in
    ap (plan_from c.args.time c.args.store.now c.args.b (c.loop-i.i + 1) (drop (c.loop-i.i + 1) c.args.table.now))
    c.plan_with-plan.ensures
    ∙ sym (gather_on c.args.time c.args.store.now c.args.b c.args.table.now c.loop-i.i c.loop-i.plan less)
    ∙ c.loop-i.invariant

pub returns : goal.returns
returns c =
    sym (gather_end c.args.time c.args.store.now c.args.b c.args.table.now c.loop-i.i c.loop-i.plan (omega (arith)))
    ∙ c.loop-i.invariant
