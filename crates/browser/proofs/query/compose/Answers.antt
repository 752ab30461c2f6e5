use native.Mathlib.Omega.{arith}
use Rattle.browser.specs.service.Service.{service_name}
use Rattle.browser.proofs.service.Names.{name-size}
use Rattle.browser.proofs.query.Small.{plan_few, planned-within}
use Rattle.browser.proofs.query.Composing.{going_start, going_end, going_stop, going_on, planned-so, composes_as}
use Rattle.browser.proofs.query.compose.Goals as goal

pub service_name-name-requires : goal.service_name-name-requires
service_name-name-requires c = tt

pub known_count-n-requires : goal.known_count-n-requires
known_count-n-requires c = tt

pub loop-j-init : goal.loop-j-init
loop-j-init c = going_start _ _ _ _ _ _ _ (planned-within c.args.plan _ c.known_count-n.ensures)
    c.requires

pub offset_bounds-known-j : goal.offset_bounds-known-j
offset_bounds-known-j c = record {
  fits = omega (
    arith,
    c.loop-j-test,
    c.known_count-n.ensures,
    plan_few
        c.args.plan c.well_formed.1.0.1.1.0.1.0.1,
  );
}

pub bounds-known-j : goal.bounds-known-j
bounds-known-j c = omega (
  arith,
  c.loop-j-test,
  c.known_count-n.ensures,
  plan_few
      c.args.plan c.well_formed.1.0.1.1.0.1.0.1,
)

pub put_known-requires : goal.put_known-requires
put_known-requires c = c.loop-j.invariant.room

pub returns-in_default : goal.returns-in_default
returns-in_default c = composes_as _ _ _ _ _ (planned-so _ c.args.b c.args.plan _ _ (name-size (service_name c.args.b) _ c.service_name-name.ensures) c.known_count-n.ensures) (going_stop _ _ _ _ _ _ _ _ _ c.loop-j.invariant (omega arith) _ _ _ c.put_known.ensures c.in_default.is)

pub loop-j-preserved : goal.loop-j-preserved
loop-j-preserved c = going_on _ _ _ _ _ _ _ _ _ c.loop-j.invariant (omega arith) _ _ _ c.put_known.ensures _ c.in-Some.is

pub returns : goal.returns
returns c = composes_as _ _ _ _ _ (planned-so _ c.args.b c.args.plan _ _ (name-size (service_name c.args.b) _ c.service_name-name.ensures) c.known_count-n.ensures) (going_end _ _ _ _ _ _ _ _ _ c.loop-j.invariant (omega arith))
