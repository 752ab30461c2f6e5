use Prim.Native.Nat.{◌≤◌}
use mathlib.Core.Path.{◌≡◌}
use mathlib.Core.Bool.{false, ◌||◌}
use Rattle.wire.specs.message.Readable.{question_shown}
use Rattle.claims.specs.records.Own.{records, has}
use Rattle.claims.proofs.records.Filled.{filled}
use Rattle.facts.specs.Facts.{asks_own}
use Rattle.facts.proofs.asked_with.Given as goal

abbrev pub invariant-loop-i : goal.invariant-loop-i
invariant-loop-i l = (l.i ≤ records) × (l.flags ≡ filled false (λ o. has o l.asked || asks_own l.setup o (question_shown l.p l.q)) l.i)
