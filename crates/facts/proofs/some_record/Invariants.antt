use Prim.Native.Nat.{◌-◌}
use mathlib.Core.Path.{◌≡◌}
use mathlib.Core.Bool.{Bool}
use Rattle.wire.specs.Lists.{some}
use Rattle.wire.specs.declared.message.RecordAt.{RecordAt}
use Rattle.wire.specs.message.Message.{Record}
use Rattle.wire.specs.message.Layout.{record_at}
use Rattle.wire.specs.message.Readable.{readable, record_shown}
use Rattle.facts.specs.Found.{RecordFound}
use Rattle.facts.specs.chains.Chains.{Whole}
use Rattle.facts.proofs.some_record.Given as goal

abbrev pub invariant-loop-read : goal.invariant-loop-read
invariant-loop-read g l =
    ((passes : Record → Bool) → ((f : RecordAt) (b : Bool) → RecordFound l.p f → goal.F-post g l.test f b → b ≡ passes (record_shown l.p f))
    → some passes (readable (record_at l.p) l._read-end l.initial.here) ≡ some passes (readable (record_at l.p) (l._read-end - l._read) l.here))
    × Whole (record_at l.p) l.ends (l._read-end - l._read) l.here
