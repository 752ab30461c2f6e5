use native.Mathlib.Omega.{arith}
use Rattle.capi_browser.proofs.Told.{exactly-not, exactly-laid}
use Rattle.capi_browser.proofs.protocol_of.Goals as goal

pub returns-then-label-ne4 : goal.returns-then-label-ne4
returns-then-label-ne4 c = exactly-not 4 _ (λ z. omega arith)

pub returns : goal.returns
returns c = exactly-laid 4 _ _ (omega arith) c.put.ensures
