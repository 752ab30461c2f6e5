use Prim.Native.Nat.{◌-◌}
use mathlib.Core.Path.{◌≡◌}
use Rattle.wire.specs.message.Layout.{question_at}
use Rattle.wire.specs.message.Readable.{readable}
use Rattle.facts.proofs.Asked.{asked_in}
use Rattle.facts.specs.Questions.{is_qm, is_qu}
use Rattle.facts.specs.chains.Chains.{Whole}
use Rattle.facts.proofs.asked_for.Given as goal

abbrev pub invariant-loop-read : goal.invariant-loop-read
invariant-loop-read l = (asked_in is_qm l.setup l.initial.asked.qm (readable (question_at l.p) l._read-end l.initial.here) ≡ asked_in is_qm l.setup l.asked.qm (readable (question_at l.p) (l._read-end - l._read) l.here))
    × (asked_in is_qu l.setup l.initial.asked.qu (readable (question_at l.p) l._read-end l.initial.here) ≡ asked_in is_qu l.setup l.asked.qu (readable (question_at l.p) (l._read-end - l._read) l.here))
    × Whole (question_at l.p) l.ends (l._read-end - l._read) l.here
