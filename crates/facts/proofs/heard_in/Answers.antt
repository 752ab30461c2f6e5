use native.Mathlib.Omega.{arith}
use Rattle.facts.proofs.Said.{no_authority}
use Rattle.facts.proofs.heard_in.Goals as goal

pub returns-then-l-eq0 : goal.returns-then-l-eq0
returns-then-l-eq0 c = let a = c.args in
    no_authority a.setup a.claim a.p.now a.l (omega arith)
