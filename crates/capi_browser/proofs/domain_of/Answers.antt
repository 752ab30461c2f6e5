use native.Mathlib.Omega.{arith}
use Rattle.capi_browser.proofs.Told.{exactly-not, exactly-laid}
use Rattle.capi_browser.proofs.domain_of.Goals as goal

pub returns-then-label-ne5 : goal.returns-then-label-ne5
returns-then-label-ne5 c = exactly-not 5 _ (λ z. omega arith)

pub returns : goal.returns
returns c = exactly-laid 5 _ _ (omega arith) c.put.ensures
