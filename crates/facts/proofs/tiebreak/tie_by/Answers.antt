use Rattle.facts.proofs.tiebreak.Turns.{alone-is, pair_is, turned_is, in_order_lem, out_of_order, other-order}
use Rattle.facts.proofs.tiebreak.tie_by.Goals as goal

pub against_one-requires : goal.against_one-requires
against_one-requires c = record { ends = c.requires.noted; whole = c.requires.authorities }

pub returns-in_default : goal.returns-in_default
returns-in_default c = let a = c.args in alone-is a.p.now a.l a.name.now a.own a.first.now a.second.now _ c.in_default.is c.against_one.ensures

pub against_two-requires : goal.against_two-requires
against_two-requires c = record {
  ends = c.requires.noted;
  whole = c.requires.authorities;
  own2_value = other-order _ _ _ c.compare_records.ensures _ c.is_gt.ensures c.if-is_gt.true;
}

pub returns-then-is_gt : goal.returns-then-is_gt
returns-then-is_gt c = let a = c.args in
    turned_is a.p.now a.l a.name.now a.own a.first.now a.second.now _ _ c.in-Some.is
    (out_of_order _ _ _ c.compare_records.ensures _ c.is_gt.ensures c.if-is_gt.true) c.against_two.ensures

pub against_two-requires-else-is_gt : goal.against_two-requires-else-is_gt
against_two-requires-else-is_gt c = record {
  ends = c.requires.noted;
  whole = c.requires.authorities;
  own2_value = in_order_lem _ _ _ c.compare_records.ensures _ c.is_gt.ensures c.if-is_gt.false;
}

pub returns-else-is_gt : goal.returns-else-is_gt
returns-else-is_gt c = let a = c.args in
    pair_is a.p.now a.l a.name.now a.own a.first.now a.second.now _ _ c.in-Some.is c.against_two-else-is_gt.ensures
