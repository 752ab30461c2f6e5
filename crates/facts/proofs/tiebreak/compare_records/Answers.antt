use native.Mathlib.Omega.{arith}
use Rattle.facts.specs.tiebreak.Later.{compare_numbers, compare_records}
use Rattle.facts.proofs.tiebreak.Orders.{by_fields}
use Rattle.facts.proofs.tiebreak.compare_records.Goals as goal

pub returns : goal.returns
unfolding compare_records compare_numbers
returns c = grind (arith, by_fields)
