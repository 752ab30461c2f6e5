use native.Mathlib.Omega.{arith}
use Rattle.own.proofs.setups.Rules.{hyphens_end, hyphen_barred, hyphens_on}
use Rattle.own.proofs.setups.hyphens_apart.Goals as goal

pub returns-then-hyphen : goal.returns-then-hyphen
returns-then-hyphen c = hyphen_barred _ c.loop-b.b-index (omega arith) _ c.loop-b.invariant c.if-hyphen.true c.if-barred.true

pub loop-b-preserved : goal.loop-b-preserved
loop-b-preserved c = hyphens_on _ c.loop-b.b-index (omega arith) _ c.loop-b.invariant c.else-barred.either

pub returns : goal.returns
returns c = hyphens_end _ c.loop-b.b-index _ (omega arith) c.loop-b.invariant
