use Rattle.capi_cache.proofs.Flushing.{chosen_is}
use Rattle.capi_cache.proofs.choose.Goals as goal

pub returns : goal.returns
returns c =
    let whole = chosen_is c.args.time c.args.store.now c.args.slot.now c.args.h c.args.table.now in
    cc (c.chosen.ensures, c.free_slot-free.ensures, c.fill_from-from.ensures, c.equal_slot-equal.ensures, whole)
