use mathlib.Core.Path.{refl}
use native.Mathlib.Omega.{arith}
use Rattle.wire.proofs.names.Plain.{labels-root, labels-reserved, labels_next, labels-end, name-long, name-short}
use Rattle.wire.proofs.names.is_name.Goals as goal

pub returns-then-s-gt-MOST_NAME : goal.returns-then-s-gt-MOST_NAME
returns-then-s-gt-MOST_NAME c = name-long _ c.if-s-gt-MOST_NAME.true

pub returns-then-n-eq0 : goal.returns-then-n-eq0
returns-then-n-eq0 c = name-short _ _ (omega arith) (labels-root _ _ (omega arith) c.loop-at.invariant.1 c.if-n-eq0.true)

pub returns-then-n-ge64 : goal.returns-then-n-ge64
returns-then-n-ge64 c = name-short _ _ (omega arith) (labels-reserved _ _ (omega arith) c.loop-at.invariant.1 _ refl c.if-n-ge64.true)

pub loop-at-preserved : goal.loop-at-preserved
loop-at-preserved c = (omega arith, labels_next _ _ (omega arith) c.loop-at.invariant.1 _ refl c.if-n-eq0.false c.if-n-ge64.false)

pub returns : goal.returns
returns c = name-short _ _ (omega arith) (labels-end _ _ c.loop-at-test.false c.loop-at.invariant.1)
