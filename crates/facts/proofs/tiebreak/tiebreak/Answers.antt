use native.Mathlib.Omega.{arith}
use Rattle.facts.proofs.tiebreak.Turns.{numbered}
use Rattle.facts.proofs.chains.Walked.{not_noted}
use Rattle.facts.proofs.tiebreak.tiebreak.Goals as goal

pub tie_by-requires : goal.tie_by-requires
tie_by-requires c = not_noted _ _ _ (omega arith)

pub returns : goal.returns
returns c = let all = numbered _ _ c.tie_by.ensures in record { verdict = all.0; number = all.1 }
