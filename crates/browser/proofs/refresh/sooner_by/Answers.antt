use native.Mathlib.Omega.{arith}
use Rattle.browser.proofs.refresh.Thresholds.{product_fits, by-dead, by-late, by-asked, by-past, by-now_first, by-now, by-at_first, by-at}
use Rattle.browser.proofs.refresh.sooner_by.Goals as goal

pub returns-then-e : goal.returns-then-e
returns-then-e c = by-dead c.args.b c.args.time c.args.e
    c.args.t c.args.part c.if-e.true

pub nonzero_div-e : goal.nonzero_div-e
nonzero_div-e c = omega (arith, c.requires.1.1)

pub returns-then-e-share : goal.returns-then-e-share
returns-then-e-share c = by-late c.args.b c.args.time
    c.args.e c.args.t
    c.args.part c.requires.1.1
    c.if-e.false c.if-e-share.true

pub overflow_mul-at : goal.overflow_mul-at
overflow_mul-at c = record {
  fits = omega (
    arith,
    product_fits c.args.b
        c.args.e c.args.part
        c.requires.1.1 c.if-e.false
        c.if-e-share.false,
    c.ranges,
  );
}

pub overflow_add-at : goal.overflow_add-at
overflow_add-at c = record {
  fits = omega (
    arith,
    product_fits c.args.b
        c.args.e c.args.part c.requires.1.1 c.if-e.false c.if-e-share.false,
    c.ranges,
  );
}

pub returns-then-at-b : goal.returns-then-at-b
returns-then-at-b c = by-asked c.args.b
    c.args.time
    c.args.e
    c.args.t
    c.args.part c.if-at-b.true

pub returns-then-e-time : goal.returns-then-e-time
returns-then-e-time c = by-past c.args.b
    c.args.time
    c.args.e
    c.args.t
    c.args.part c.if-at-time.true
    c.if-e-time.true

pub returns-then-t-time : goal.returns-then-t-time
returns-then-t-time c = by-now_first c.args.b
    c.args.time
    c.args.e
    c.args.t
    c.args.part
    c.if-at-b.false c.if-at-time.true c.if-e-time.false c.if-t-time.true

pub returns-then-at-time : goal.returns-then-at-time
returns-then-at-time c = by-now c.args.b
    c.args.time
    c.args.e
    c.args.t
    c.args.part
    c.if-at-b.false c.if-at-time.true c.if-e-time.false c.if-t-time.false

pub returns-then-t-at : goal.returns-then-t-at
returns-then-t-at c = by-at_first c.args.b
    c.args.time
    c.args.e
    c.args.t
    c.args.part
    c.requires.1.1
    c.if-e.false c.if-e-share.false
    c.if-at-b.false c.if-at-time.false c.if-t-at.true

pub returns : goal.returns
returns c = by-at c.args.b
    c.args.time
    c.args.e
    c.args.t
    c.args.part
    c.requires.1.1
    c.if-e.false c.if-e-share.false
    c.if-at-b.false c.if-at-time.false c.if-t-at.false
