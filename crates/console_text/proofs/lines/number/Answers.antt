use native.Mathlib.Omega.{arith}
use Rattle.console_text.proofs.lines.Digits.{number-none, number-some, number-end, number-low, number-high, number-digit, number-over}
use Rattle.console_text.proofs.lines.number.Goals as goal

pub returns-then-s-eq0 : goal.returns-then-s-eq0
returns-then-s-eq0 c = number-none _ c.if-s-eq0.true

pub loop-i-init : goal.loop-i-init
loop-i-init c = (omega arith, number-some _ c.if-s-eq0.false)

pub returns-then-b-lt48 : goal.returns-then-b-lt48
returns-then-b-lt48 c = number-low _ _ c.loop-i.i c.loop-i.invariant.1 (omega arith) (omega arith)

pub returns-then-b-gt57 : goal.returns-then-b-gt57
returns-then-b-gt57 c = number-high _ _ c.loop-i.i c.loop-i.invariant.1 (omega arith) (omega arith)

pub returns-then-value : goal.returns-then-value
returns-then-value c = number-over _ _ c.loop-i.i c.loop-i.invariant.1 (omega arith) (omega arith) (omega arith) (omega arith)

pub returns-then-value-digit : goal.returns-then-value-digit
returns-then-value-digit c = number-over _ _ c.loop-i.i c.loop-i.invariant.1 (omega arith) (omega arith) (omega arith) (omega arith)

pub loop-i-preserved : goal.loop-i-preserved
loop-i-preserved c = (omega arith, number-digit _ _ _ c.loop-i.invariant.1 (omega arith) (omega arith) (omega arith))

pub returns : goal.returns
returns c = number-end _ _ c.loop-i.i c.loop-i.invariant.1 (omega arith) (omega arith)
