use Rattle.facts.specs.chains.Chains.{Whole}
use mathlib.Core.Path.{◌≡◌}
use Prim.Native.Nat.{◌+◌, ◌<◌, ◌≤◌, ◌-◌}
use Rattle.wire.specs.message.Layout.{record_at}
use Rattle.wire.specs.message.Readable.{readable}
use Rattle.facts.specs.tiebreak.Lists.{list_under, own_record}
use Rattle.facts.specs.tiebreak.Counts.{count_all, none_counted}
use Rattle.facts.proofs.tiebreak.count_under.Given as goal

abbrev pub invariant-loop-read : goal.invariant-loop-read
invariant-loop-read l = (l.c.all + (l._read-end - l._read) ≤ l._read-end) × (l.c.earlier + (l._read-end - l._read) ≤ l._read-end) × (l.c.same + (l._read-end - l._read) ≤ l._read-end) × (l._read-end < 65536) ×
    (count_all (own_record l.rtype l.own) (list_under l.name (readable (record_at l.p) l._read-end l.initial.here)) none_counted ≡ count_all (own_record l.rtype l.own)
    (list_under l.name (readable (record_at l.p) (l._read-end - l._read) l.here)) l.c) × Whole (record_at l.p) l.ends (l._read-end - l._read) l.here
