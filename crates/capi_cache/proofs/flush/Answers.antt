use Rattle.std.proofs.Common.{◌≡◌, ◌<◌, ℕ, List, length, get_or, set, sym, ap, ap₂, ◌∙◌, arith}
use Rattle.cache.specs.entries.Entries.{blank}
use Rattle.cache.specs.declared.entries.Entry.{Entry}
use Rattle.cache.specs.records.Heard.{is_flushing, flushed_heard}
use Rattle.cache.specs.records.Taking.{flushed_in}
use Rattle.capi_cache.proofs.Mixed.{mixed}
use Rattle.capi_cache.proofs.Flushing.{first-within, flush_on, flush_past, flush_end, flush_start}
use Rattle.capi_cache.proofs.flush.Goals as goal
use Rattle.capi_cache.proofs.flush.Goals.{then-e-h, else-e-h}

pub loop-i-init : goal.loop-i-init
loop-i-init c =
    let es = c.args.table.now in
    let i-is = c.flush_from-first.ensures in (
      omega (arith, i-is, first-within (is_flushing c.args.h) (length es)),
      sym (ap (λ (k : ℕ). mixed k (flushed_in c.args.time c.args.store.now c.args.slot.now c.args.h es) es) i-is ∙ flush_start c.args.time c.args.store.now c.args.slot.now c.args.h es),
    )

pub loop-i-preserved : goal.loop-i-preserved
loop-i-preserved c =
    let a = c.args in
    let es = a.table.now in
    let i = c.loop-i.i in
    let less : i < length es = omega (arith) in
    let is = c.loop-i.invariant.1 in
    let next : c.entry_at-e.result ≡ get_or (mixed i (flushed_in a.time a.store.now a.slot.now a.h es) es) i blank =
    c.entry_at-e.ensures ∙ ap (λ (zs : List Entry). get_or zs i blank) is in (
      omega arith,
      elim c.if-e-h.branch [
        | then-e-h w ↦
            w.table-is
            ∙ w.put_entry.ensures
            ∙ ap₂ (λ (zs : List Entry) (e : Entry). set zs i e) is (w.flush_heard.ensures ∙ ap (flushed_heard a.time a.store.now a.slot.now a.h i) next)
            ∙ flush_on a.time a.store.now a.slot.now a.h es i less
        | else-e-h w ↦
            w.table-is
            ∙ is
            ∙ flush_past a.time a.store.now a.slot.now a.h es i less (λ k. w.if-e-h.false (ap (λ (e : Entry). e.rtype) next ∙ k))
      ],
    )

pub returns : goal.returns
returns c =
    c.loop-i.invariant.1
    ∙ flush_end c.args.time c.args.store.now c.args.slot.now c.args.h c.args.table.now c.loop-i.i c.loop-i.invariant.0 (omega (arith))
