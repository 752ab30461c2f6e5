use Rattle.claims.specs.declared.records.Own.{Own}
use Rattle.claims.specs.records.Own.{index_of}
use Rattle.claims.proofs.records.Filled.{none_filled, next_filled, set-filled}
use Prim.Native.Nat.{◌+◌}
use mathlib.Core.Path.{ap, ◌∙◌}
use mathlib.Core.Bool.{false}
use native.Mathlib.Omega.{arith}
use Rattle.capi_responder.specs.codec.Parts.{flag_at, set_at}
use Rattle.capi_responder.proofs.codec.set_at.Goals as goal

pub loop-i-init : goal.loop-i-init
loop-i-init c = none_filled false _

pub loop-i-preserved : goal.loop-i-preserved
loop-i-preserved c = let a = c.args in
    next_filled false _ _ _ _ c.loop-i.invariant (c.set_flag.ensures ∙ ap (λ (o : Own). flag_at a.b.now (a.at + index_of o)) c.record_at.ensures)

pub returns : goal.returns
unfolding set_at
returns c = set-filled _ _ _ _ c.set_of.ensures (omega arith) (omega arith) c.loop-i.invariant
