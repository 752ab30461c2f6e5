use Rattle.cache.proofs.entries.Single.{slot-past, start-past}
use mathlib.Core.Path.{◌∙◌}
use Rattle.cache.proofs.entries.slot_of.Goals as goal

pub returns-then-store-i : goal.returns-then-store-i
returns-then-store-i c = let a = c.args in record { bytes = c.part.ensures.bytes ∙ slot-past _ _ c.if-store-i.true; start = c.part.ensures.start ∙ start-past a.store.now a.i a.store.ref_ptr c.if-store-i.true }
