use Prim.Native.Nat.{◌-◌}
use mathlib.Core.Path.{◌≡◌}
use Rattle.wire.specs.message.Layout.{list_from, record_at}
use Rattle.wire.specs.message.Places.{past_list}
use Rattle.wire.specs.long_message.Noted.{Noted}
use Rattle.wire.proofs.long_message.records_end.Given as goal

abbrev pub invariant-loop-read : goal.invariant-loop-read
invariant-loop-read l = (past_list (list_from (record_at l.p) l.count l.at) ≡ past_list (list_from (record_at l.p) (l.count - l._read) l.here)) × Noted l.p l.noted
