use native.Mathlib.Omega.{arith}
use Rattle.capi_cache.proofs.Types.{four_none, four_left}
use Rattle.capi_cache.proofs.has_four.Goals as goal

pub returns-then-n-i : goal.returns-then-n-i
returns-then-n-i c = let x = c.args in four_none x.n x.i (omega arith)

pub returns : goal.returns
returns c = let x = c.args in four_left x.n x.i (omega arith)
