use Rattle.std.proofs.Common.{ap, ◌∙◌}
use Rattle.cache.specs.entries.Entries.{soon, refreshed}
use Rattle.capi_cache.proofs.Changes.{expires, refreshes, fills, leaves}
use Rattle.capi_cache.proofs.change.Goals as goal

pub returns-in-Expire : goal.returns-in-Expire
returns-in-Expire c =
    let a = c.args in
    let r = expires a.time a.h a.slot.now a.table.now a.store.now a.c c.in-Expire.i c.in-Expire.is _ (c.to_expire.ensures ∙ ap (soon a.time) c.entry_at-e.ensures) in
    (c.put_entry.ensures ∙ r.0, r.1)

pub returns-in-Refresh : goal.returns-in-Refresh
returns-in-Refresh c =
    let a = c.args in
    let r = refreshes a.time a.h a.slot.now a.table.now a.store.now a.c c.in-Refresh.i c.in-Refresh.is _ (c.refresh_entry.ensures ∙ ap (refreshed a.time a.h.at.ttl) c.entry_at-e-in-Refresh.ensures) in
    (c.put_entry-in-Refresh.ensures ∙ r.0, r.1)

pub returns-in-Fill : goal.returns-in-Fill
returns-in-Fill c =
    let a = c.args in
    let r = fills a.time a.h a.slot.now a.table.now a.store.now a.c c.in-Fill.i c.in-Fill.is _ c.fill_entry.ensures _ c.keep.ensures in
    (c.put_entry-in-Fill.ensures ∙ r.0, r.1)

pub returns-in-Leave : goal.returns-in-Leave
returns-in-Leave c = let a = c.args in leaves a.time a.h a.slot.now a.table.now a.store.now a.c c.in-Leave.is
