use mathlib.Core.Path.{◌≡◌}
use Prim.Native.Nat.{◌≤◌, ◌-◌}
use lib.ListN.{length, drop}
use Rattle.wire.specs.rdata.Rdata.{strings_fill}
use Rattle.txt.specs.Txt.{strings_from, first_with}
use Rattle.txt.specs.Lookup.{answer_of, in_txt}
use Rattle.txt.proofs.find.Given as goal

abbrev pub invariant-loop-at : goal.invariant-loop-at
invariant-loop-at l = (l.at ≤ length l.txt) × (strings_fill 0 l.txt ≡ strings_fill 0 (drop l.at l.txt)) × (in_txt l.buffer l.key l.txt ≡ answer_of l.buffer (first_with l.key (strings_from l.at 0 (drop l.at l.txt))))

abbrev pub decreases-loop-at : goal.decreases-loop-at
decreases-loop-at l = length l.txt - l.at
