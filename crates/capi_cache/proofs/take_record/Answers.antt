use Rattle.std.proofs.Common.{List, length, refl, sym, ap, ap₂, subst, ◌∙◌, arith}
use Rattle.cache.specs.declared.entries.Entry.{Entry}
use Rattle.cache.specs.declared.records.Choice.{Choice}
use Rattle.cache.specs.records.Taking.{chosen_in, changed_in, kept_in}
use Rattle.cache.proofs.records.Rules.{flushed-length}
use Rattle.capi_cache.specs.Sections.{Changing}
use Rattle.capi_cache.proofs.Moving.{changing}
use Rattle.capi_cache.proofs.take_record.Goals as goal

pub change-requires : goal.change-requires
change-requires c =
    let es = c.flush.new.table in
    let len = ap length c.flush.ensures ∙ flushed-length c.args.time c.args.store.now c.args.slot.now c.args.h c.args.table.now in (
      (c.requires.0.0, omega (arith, len)),
      subst (λ (x : Choice). Changing (length es) c.args.h x) (sym c.choose-c.ensures) (changing c.args.time c.args.store.now c.args.slot.now c.args.h es (length es) refl c.requires.1),
    )

pub returns : goal.returns
returns c =
    let a = c.args in
    let x = c.choose-c.ensures ∙ ap (λ (es : List Entry). chosen_in a.time a.store.now a.slot.now a.h es) c.flush.ensures in (
      x,
      (
        c.change.ensures.0 ∙ ap₂ (λ (y : Choice) (es : List Entry). changed_in a.time a.h y es) x c.flush.ensures,
        c.change.ensures.1 ∙ ap (λ (y : Choice). kept_in a.slot.now a.h y a.store.now) x,
      ),
    )
