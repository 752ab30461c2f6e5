use native.Mathlib.Omega.{arith}
use Rattle.browser.proofs.query.Small.{stop-here, stop-none, plan_few}
use Rattle.browser.proofs.query.stop_at.Goals as goal

pub offset_bounds-known-k : goal.offset_bounds-known-k
offset_bounds-known-k c = record {
  fits = omega (
    arith,
    c.if-k-known_count.true,
    c.known_count.ensures,
    plan_few c.args.plan
        c.well_formed.0.1.1.0.1.0.1,
  );
}

pub bounds-known-k : goal.bounds-known-k
bounds-known-k c = omega (
  arith,
  c.if-k-known_count.true,
  c.known_count.ensures,
  plan_few c.args.plan
      c.well_formed.0.1.1.0.1.0.1,
)

pub returns-then-k-known_count : goal.returns-then-k-known_count
returns-then-k-known_count c = stop-here c.args.plan c.args.k _
    c.known_count.ensures c.if-k-known_count.true

pub returns : goal.returns
returns c = stop-none c.args.plan c.args.k _ c.known_count.ensures c.if-k-known_count.false
