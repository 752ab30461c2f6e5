use Rattle.std.proofs.Common.{◌+◌, ◌<◌, ℕ, length, drop, sym, ap, ◌∙◌, arith}
use Rattle.browser.specs.refresh.Refresh.{soonest}
use Rattle.browser.proofs.refresh.Soonest.{soonest-on, soonest-end, soonest-start}
use Rattle.browser.proofs.refresh.next_query.Goals as goal

pub loop-i-init : goal.loop-i-init
loop-i-init c =
    ap (λ (t : ℕ). soonest c.args.time c.args.store.now c.args.b 0 (drop 0 c.args.table.now) t) c.series_from-t.ensures
    ∙ soonest-start c.args.time c.args.store.now c.args.b c.args.table.now

pub loop-i-preserved : goal.loop-i-preserved
loop-i-preserved c =
    let less : c.loop-i.i < length c.args.table.now = omega (arith) in
    ap (λ (t : ℕ). soonest c.args.time c.args.store.now c.args.b (c.loop-i.i + 1) (drop (c.loop-i.i + 1) c.args.table.now) t)
    c.sooner_of-t.ensures
    ∙ sym (soonest-on c.args.time c.args.store.now c.args.b c.args.table.now c.loop-i.i c.loop-i.t less)
    ∙ c.loop-i.invariant

pub returns : goal.returns
returns c =
    sym (soonest-end c.args.time c.args.store.now c.args.b c.args.table.now c.loop-i.i c.loop-i.t (omega (arith)))
    ∙ c.loop-i.invariant
