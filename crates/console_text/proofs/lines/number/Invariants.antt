use mathlib.Core.Path.{◌≡◌}
use Prim.Native.Nat.{◌<◌}
use lib.ListN.{drop}
use Rattle.console_text.specs.lines.Numbers.{number_of, number_from}
use Rattle.console_text.proofs.lines.number.Given as goal

abbrev pub invariant-loop-i : goal.invariant-loop-i
invariant-loop-i l = (l.value < 18446744073709551616) × (number_of l.s ≡ number_from l.value (drop l.i l.s))
