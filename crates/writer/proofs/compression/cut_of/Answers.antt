use native.Mathlib.Omega.{arith}
use Rattle.writer.proofs.compression.Search.{further_zero, cut-end, cut-root, cut-found, cut-long, cut_on}
use Rattle.writer.proofs.compression.cut_of.Goals as goal

pub loop-i-init : goal.loop-i-init
loop-i-init c = (omega arith, further_zero _)

pub returns-then-n-eq0 : goal.returns-then-n-eq0
returns-then-n-eq0 c = cut-root _ _ _ c.loop-i.i c.loop-i.invariant.1 (omega arith) c.if-n-eq0.true

pub returns-in-Some : goal.returns-in-Some
returns-in-Some c = cut-found _ _ _ c.loop-i.i
    c.loop-i.invariant.1 (omega arith) c.if-n-eq0.false _
    c.place_of.ensures _ c.in-Some.is

pub returns-then-name-i : goal.returns-then-name-i
returns-then-name-i c = cut-long _ _ _ c.loop-i.i
    c.loop-i.invariant.1 (omega arith) c.if-n-eq0.false _
    c.place_of.ensures c.in_default.is c.if-name-i.true

pub loop-i-preserved : goal.loop-i-preserved
loop-i-preserved c = (
  omega arith,
  cut_on _ _ _ c.loop-i.i
      c.loop-i.invariant.1 (omega arith) c.if-n-eq0.false _
      c.place_of.ensures c.in_default.is c.if-name-i.false,
)

pub returns : goal.returns
returns c = cut-end _ _ _ c.loop-i.i c.loop-i.invariant.1 (omega arith)
