use Rattle.std.proofs.Common.{◌∙◌, ◌*◌, ℕ, sym, ap, arith}
use Rattle.cache.specs.entries.Cache.{Cache}
use Rattle.capi_cache.specs.Sections.{counts_in}
use Rattle.capi_cache.proofs.Moving.{heard-fits, starts, gone, broken_off, goes_on}
use Rattle.capi_cache.proofs.take_section.Goals as goal

pub loop-k-init : goal.loop-k-init
loop-k-init c = let a = c.args in starts a.time a.message.now a.s a.before a.table.now a.store.now

pub returns-in_default : goal.returns-in_default
returns-in_default c =
    let g = c.loop-k.invariant in
    let is = broken_off _ _ _ _ _ _ _ _ _ _ _ _ c.loop-k.invariant (sym c.hear.ensures.0 ∙ c.in_default.is) in
    record { takes = (ap counts_in is, (ap (λ (k : Cache). k.entries) is, ap (λ (k : Cache). k.store) is)); most = (omega (arith, g.away), omega (arith, g.over)) }

pub take_record-c-requires : goal.take_record-c-requires
take_record-c-requires c =
    let r = c.requires.0.0 in
    ((r.early, c.loop-k.invariant.store ∙ r.slots ∙ ap (λ (n : ℕ). 1024 * n) (sym c.loop-k.invariant.entries)), heard-fits c.args.message.now c.loop-k.at c.in-Some.h (sym c.in-Some.is ∙ c.hear.ensures.0))

pub counted-counts-requires : goal.counted-counts-requires
counted-counts-requires c = let g = c.loop-k.invariant in (omega (arith, g.away, c.requires.0.1.0), omega (arith, g.over, c.requires.0.1.1))

pub loop-k-preserved : goal.loop-k-preserved
loop-k-preserved c =
    goes_on _ _ _ _ _ _ _ c.loop-k.at _ c.loop-k.counts c.loop-k.table c.loop-k.store c.loop-k.invariant (omega arith) c.loop-k.slot (omega arith) c.in-Some.h (sym c.in-Some.is ∙ c.hear.ensures.0)
    c.hear.new.slot c.hear.ensures.1 c.take_record-c.result c.take_record-c.new.table c.take_record-c.new.store c.take_record-c.ensures c.counted-counts.result c.counted-counts.ensures _ (omega arith)

pub returns : goal.returns
returns c =
    let g = c.loop-k.invariant in
    let is = gone _ _ _ _ _ _ _ _ _ _ _ _ c.loop-k.invariant (omega arith) in
    record { takes = (ap counts_in is, (ap (λ (k : Cache). k.entries) is, ap (λ (k : Cache). k.store) is)); most = (omega (arith, g.away), omega (arith, g.over)) }
