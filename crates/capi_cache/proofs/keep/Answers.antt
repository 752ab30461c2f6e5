use Rattle.capi_cache.proofs.Changes.{kept}
use Rattle.capi_cache.proofs.keep.Goals as goal

pub returns : goal.returns
returns c =
    kept c.args.slot.now c.args.h c.args.store.now c.args.i _ _ _ _ _ _ c.blank_slot-filled.ensures c.part.ensures.bytes c.put.ensures c.part-2.ensures.bytes c.put-2.ensures c.put-3.ensures
