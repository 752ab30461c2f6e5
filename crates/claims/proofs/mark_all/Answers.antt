use Rattle.std.specs.Prelude.{None}
use Rattle.claims.specs.Time.{last_of, marked_all}
use Rattle.claims.specs.declared.Multicast.{Multicast}
use Rattle.claims.proofs.records.Filled.{none_filled, next_filled, all-filled}
use mathlib.Core.Path.{ap}
use mathlib.Core.List.{List}
use native.Mathlib.Omega.{arith}
use Rattle.claims.proofs.mark_all.Goals as goal

pub loop-i-init : goal.loop-i-init
loop-i-init c = none_filled (last_of None) _

pub loop-i-preserved : goal.loop-i-preserved
loop-i-preserved c = next_filled (last_of None) _ _ _ _ c.loop-i.invariant (ap last_of (simp (c.mark-last.ensures, c.sent_of.ensures, c.is_in.ensures, c.record_at-o.ensures)))

pub returns : goal.returns
unfolding marked_all
returns c = ap (λ (l : List Multicast). record { of = l }) (all-filled (last_of None) _ _ _ (omega arith) (omega arith) c.loop-i.invariant)
