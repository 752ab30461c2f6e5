use Rattle.std.proofs.Common.{◌+◌, length, drop, sym, ap, ◌∙◌, arith}
use Rattle.capi_cache.specs.declared.Most.{Most}
use Rattle.capi_cache.proofs.Scan.{rest_of, scan_start, scan_on, scan_end}
use Rattle.capi_cache.proofs.table_refusal.Goals as goal

pub loop-e-init : goal.loop-e-init
loop-e-init c = ap (λ (m : Most). rest_of c.args.time (length c.args.table.now) m c.args.table.now) c.no_most-most.ensures ∙ scan_start c.args.time c.args.table.now

pub loop-e-preserved : goal.loop-e-preserved
loop-e-preserved c =
    let n = length c.args.table.now in
    ap (λ (m : Most). rest_of c.args.time n m (drop (c.loop-e.e-index + 1) c.args.table.now)) c.most_with-most.ensures
    ∙ sym (scan_on c.args.time n c.loop-e.most c.args.table.now c.loop-e.e-index (omega arith)) ∙ c.loop-e.invariant

pub returns : goal.returns
returns c =
    let n = length c.args.table.now in
    c.at_end.ensures ∙ sym (scan_end c.args.time n c.loop-e.most c.args.table.now c.loop-e.e-index (omega arith)) ∙ c.loop-e.invariant
