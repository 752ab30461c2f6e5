use Rattle.std.specs.Prelude.{None}
use Rattle.claims.specs.records.Own.{has}
use Rattle.claims.specs.Time.{last_of, sent_of, marked}
use Rattle.claims.proofs.records.Filled.{filled}
use mathlib.Core.Path.{◌≡◌}
use Rattle.claims.proofs.mark_all.Given as goal

abbrev pub invariant-loop-i : goal.invariant-loop-i
invariant-loop-i l = l.of ≡ filled (last_of None) (λ o. last_of (marked (has o l.set) (sent_of o l.sent) l.now)) l.i
