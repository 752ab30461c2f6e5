use Prim.Native.Nat.{◌-◌}
use mathlib.Core.Path.{◌≡◌}
use Rattle.wire.specs.message.Layout.{list_from, question_at}
use Rattle.wire.specs.message.Places.{past_list}
use Rattle.wire.proofs.message.questions_end.Given as goal

abbrev pub invariant-loop-read : goal.invariant-loop-read
invariant-loop-read l = past_list (list_from (question_at l.p) l.count l.at) ≡ past_list (list_from (question_at l.p) (l.count - l._read) l.here)
