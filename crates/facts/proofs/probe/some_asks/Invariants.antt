use Prim.Native.Nat.{◌-◌}
use Rattle.facts.specs.chains.Chains.{Whole}
use mathlib.Core.Path.{◌≡◌}
use Rattle.wire.specs.message.Layout.{question_at}
use Rattle.wire.specs.Lists.{some}
use Rattle.wire.specs.message.Readable.{readable}
use Rattle.facts.specs.probe.Probe.{asks_all}
use Rattle.facts.proofs.probe.some_asks.Given as goal

abbrev pub invariant-loop-read : goal.invariant-loop-read
invariant-loop-read l = (some (asks_all l.name) (readable (question_at l.p) l._read-end l.initial.here) ≡ some (asks_all l.name) (readable (question_at l.p) (l._read-end - l._read) l.here)) × Whole (question_at l.p) l.ends (l._read-end - l._read) l.here
