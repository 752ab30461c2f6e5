use Prim.Native.Nat.{ℕ, ◌-◌, ◌<◌}
use mathlib.Core.Path.{◌≡◌}
use mathlib.Core.Bool.{Bool, false}
use Rattle.wire.specs.Lists.{some}
use Rattle.wire.specs.message.Message.{Record}
use Rattle.wire.specs.message.Layout.{record_at}
use Rattle.wire.specs.message.Readable.{readable}
use Rattle.facts.proofs.some_passes.Given as goal

abbrev pub invariant-loop-seen : goal.invariant-loop-seen
invariant-loop-seen g l =
    (passes : ℕ → Bool) → ((rtype : ℕ) (b : Bool) → rtype < 65536 → goal.F-post g l.test rtype b → b ≡ passes rtype)
    → some (λ (r : Record). passes r.rtype) (readable (record_at l.p) (l._seen-end - l._seen) l.here) ≡ false
    → some (λ (r : Record). passes r.rtype) (readable (record_at l.p) l._seen-end l.initial.here) ≡ false
