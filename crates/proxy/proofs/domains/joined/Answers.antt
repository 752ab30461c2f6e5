use Rattle.proxy.proofs.domains.Fronts.{joined_bytes}
use native.Mathlib.Omega.{arith}
use Rattle.proxy.proofs.domains.joined.Goals as goal

pub returns : goal.returns
returns c = let a = c.args in joined_bytes a.name.now a.domain.now
    a.front (omega arith) (omega arith) _ _ c.put.ensures c.put-2.ensures
