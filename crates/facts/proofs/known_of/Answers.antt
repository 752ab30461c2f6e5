use native.Mathlib.Omega.{arith}
use Rattle.facts.proofs.Said.{none-known}
use Rattle.facts.proofs.known_of.Goals as goal

pub returns-then-l-eq0 : goal.returns-then-l-eq0
returns-then-l-eq0 c = let a = c.args in
    none-known a.setup a.p.now a.l (omega arith) _ c.no_record.ensures
