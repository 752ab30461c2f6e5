use native.Mathlib.Omega.{arith}
use Rattle.wire.proofs.rdata.Parts.{no_string, string_cut, string_there}
use Rattle.wire.proofs.rdata.string_at.Goals as goal

pub returns-then-d-at : goal.returns-then-d-at
returns-then-d-at c = no_string _ _ (omega arith)

pub returns-then-d-text : goal.returns-then-d-text
returns-then-d-text c = string_cut _ _ (omega arith) (omega arith)

pub returns : goal.returns
returns c = string_there _ _ (omega arith) (omega arith)
