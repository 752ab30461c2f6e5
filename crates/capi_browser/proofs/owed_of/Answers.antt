use native.Mathlib.Omega.{arith}
use Rattle.capi_browser.proofs.Told.{owed_none, owed_some}
use Rattle.capi_browser.proofs.owed_of.Goals as goal

pub returns-then-n-eq0 : goal.returns-then-n-eq0
returns-then-n-eq0 c = owed_none _ (omega arith)

pub returns-else-n-eq0 : goal.returns-else-n-eq0
returns-else-n-eq0 c = owed_some _ (λ z. omega arith)
