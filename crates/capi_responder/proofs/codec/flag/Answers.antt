use mathlib.Core.Path.{refl}
use Rattle.capi_responder.proofs.codec.flag.Goals as goal

pub returns : goal.returns
returns c = rw c.byte.ensures refl
