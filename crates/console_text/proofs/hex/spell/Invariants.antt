use mathlib.Core.Path.{◌≡◌}
use Prim.Native.Nat.{◌≤◌, ◌*◌}
use lib.ListN.{length, take}
use lib.Seq.{sets}
use Rattle.console_text.specs.hex.Bytes.{digits_of}
use Rattle.console_text.proofs.hex.spell.Given as goal

abbrev pub invariant-loop-i : goal.invariant-loop-i
invariant-loop-i l = (2 * length l.s ≤ length l.initial.out) × (l.out ≡ sets l.initial.out 0 (digits_of (take l.i l.s)))
