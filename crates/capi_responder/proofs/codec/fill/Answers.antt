use native.Mathlib.Omega.{arith}
use Rattle.capi_responder.proofs.codec.Parts.{filled}
use Rattle.capi_responder.proofs.codec.fill.Goals as goal

pub returns : goal.returns
returns c = let a = c.args in
    filled a.at a.b.now a.out.now _ (omega arith) c.put.ensures
