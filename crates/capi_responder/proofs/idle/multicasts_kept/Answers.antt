use Prim.Native.Nat.{ℕ, ◌+◌, ◌*◌}
use mathlib.Core.Path.{refl, sym, ap, ◌∙◌}
use native.Mathlib.Omega.{arith}
use Rattle.claims.specs.records.Own.{all, index_of, record_at}
use Rattle.claims.specs.declared.records.Own.TheVariants.{Ptr}
use Rattle.claims.proofs.records.Searched.{every-fails, every-next, every-ends}
use Rattle.capi_responder.specs.codec.Layout as layout
use Rattle.capi_responder.specs.idle.Idle.{when_kept, multicasts_kept}
use Rattle.capi_responder.proofs.codec.Multicast.{index_at}
use Rattle.capi_responder.proofs.idle.multicasts_kept.Goals as goal

pub loop-i-init : goal.loop-i-init
loop-i-init c = refl

pub when_kept-requires : goal.when_kept-requires
when_kept-requires c = (omega arith, omega arith)

pub returns-then-not-when_kept : goal.returns-then-not-when_kept
unfolding record_at multicasts_kept
returns-then-not-when_kept c = let a = c.args in let l = c.loop-i in every-fails (λ o. when_kept a.b.now (layout.multicast (index_of o))) all l.i Ptr (omega arith) _ (c.when_kept.ensures ∙ ap (λ (k : ℕ). when_kept a.b.now (layout.multicasts + k * layout.case_size)) (sym (index_at l.i (omega arith)))) l.invariant (c.if-not-when_kept.true)

pub loop-i-preserved : goal.loop-i-preserved
unfolding record_at
loop-i-preserved c = let a = c.args in let l = c.loop-i in every-next (λ o. when_kept a.b.now (layout.multicast (index_of o))) all l.i Ptr (omega arith) _ (c.when_kept.ensures ∙ ap (λ (k : ℕ). when_kept a.b.now (layout.multicasts + k * layout.case_size)) (sym (index_at l.i (omega arith)))) l.invariant (c.if-not-when_kept.false)

pub returns : goal.returns
unfolding multicasts_kept
returns c = let a = c.args in let l = c.loop-i in every-ends (λ o. when_kept a.b.now (layout.multicast (index_of o))) all l.i l.invariant (omega arith)
