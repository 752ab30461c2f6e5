use Rattle.capi_responder.proofs.encoder.Parts.{laid_next}
use mathlib.Core.List.{[], ◌∷◌}
use mathlib.Core.Path.{refl}
use Rattle.capi_responder.proofs.encoder.put_case.Goals as goal

pub returns : goal.returns
returns c = let number = c.put_number.ensures in
    let tag = c.args.tag in
    (laid_next (tag ∷ []) _ refl c.put.ensures number.0, number.1)
