use mathlib.Core.Path.{ap, ◌∙◌}
use Rattle.claims.specs.Time.{sent_of}
use Rattle.claims.specs.declared.records.Own.{Own}
use native.Mathlib.Omega.{arith}
use Rattle.capi_responder.proofs.encoder.Written.{none_written, one_written, all-written}
use Rattle.capi_responder.proofs.encoder.put_multicasts.Goals as goal

pub loop-i-init : goal.loop-i-init
loop-i-init c = none_written _ _

pub loop-i-preserved : goal.loop-i-preserved
loop-i-preserved c = let a = c.args in let l = c.loop-i in one_written a.sent l.i l.invariant (omega arith) _ (c.sent_of-last.ensures ∙ ap (λ (o : Own). sent_of o a.sent) c.record_at.ensures) c.put_when.ensures

pub returns : goal.returns
returns c = let a = c.args in let l = c.loop-i in let g = c.well_formed in let h = g.1.0.1.1.0.1.0.1 in all-written a.sent l.i l.invariant (omega arith) h
