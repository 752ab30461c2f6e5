use mathlib.Core.Path.{◌≡◌}
use mathlib.Core.Bool.{false}
use Prim.Native.Nat.{◌-◌}
use Rattle.wire.specs.message.Layout.{record_at}
use Rattle.wire.specs.message.Readable.{readable}
use Rattle.claims.specs.records.Own.{record_at as own_at}
use Rattle.claims.proofs.records.Filled.{filled}
use Rattle.facts.specs.chains.Chains.{Whole}
use Rattle.facts.proofs.Known.{knows}
use Rattle.facts.proofs.known_in.Given as goal

abbrev pub invariant-loop-read : goal.invariant-loop-read
invariant-loop-read l = (l.known ≡ l.initial.known)
    × (knows l.setup (readable (record_at l.p) l._read-end l.initial.here) (own_at l.i) ≡ knows l.setup (readable (record_at l.p) (l._read-end - l._read) l.here) (own_at l.i))
    × Whole (record_at l.p) l.ends (l._read-end - l._read) l.here

abbrev pub invariant-own : goal.invariant-own
invariant-own l = l.known ≡ filled false (knows l.setup (readable (record_at l.p) l.s.count l.s.at)) l.i
