use native.Mathlib.Omega.{arith}
use mathlib.Core.Path.{sym}
use lib.Seq.{length-take-le}
use Rattle.writer.proofs.Rdata.{behind-fits, front_fits, name-between, target-ready, target-end, wrote_target, wrote_plain}
use Rattle.writer.proofs.put_data.Goals as goal

pub overflow_sub-tail : goal.overflow_sub-tail
overflow_sub-tail c = let a = c.args in
    behind-fits a.known a.at a.count a.tried a.held a.d.now a.out.now a.places.now c.requires c.if-held.true

pub slice_bounds-put-end : goal.slice_bounds-put-end
slice_bounds-put-end c = let a = c.args in
    sym (length-take-le _ a.d.now (front_fits a.known a.at a.count a.tried a.held a.d.now a.out.now a.places.now
    c.requires c.if-held.true))

pub overflow_add-at : goal.overflow_add-at
overflow_add-at c = let a = c.args in
    omega (
      arith,
      front_fits a.known a.at a.count a.tried a.held a.d.now a.out.now a.places.now c.requires c.if-held.true,
      c.requires.room,
    )

pub slice_bounds-put_name-count : goal.slice_bounds-put_name-count
slice_bounds-put_name-count c = let a = c.args in
    name-between a.known a.at a.count a.tried a.held a.d.now a.out.now a.places.now c.requires c.if-held.true

pub slice_bounds-put_name-start : goal.slice_bounds-put_name-start
slice_bounds-put_name-start c = let a = c.args in
    name-between a.known a.at a.count a.tried a.held a.d.now a.out.now a.places.now c.requires c.if-held.true

pub put_name-named-requires : goal.put_name-named-requires
put_name-named-requires c = let a = c.args in
    target-ready a.known a.at a.count a.tried a.held a.d.now a.out.now a.places.now c.requires c.if-held.true _
    c.put.ensures

pub overflow_add-result : goal.overflow_add-result
overflow_add-result c = let a = c.args in
    omega (
      arith,
      target-end a.known a.at a.count a.tried a.held a.d.now a.out.now a.places.now c.requires c.if-held.true _
          c.put.ensures c.put_name-named.result _ _ c.put_name-named.ensures,
      c.requires.room,
    )

pub returns-then-held : goal.returns-then-held
returns-then-held c = let a = c.args in
    wrote_target a.known a.at a.count a.tried a.held a.d.now a.out.now a.places.now c.requires c.if-held.true _
    c.put.ensures c.put_name-named.result _ _ c.put_name-named.ensures _
    c.put-then-held.ensures

pub returns : goal.returns
returns c = let a = c.args in
    wrote_plain a.known a.at a.count a.tried a.held a.d.now a.out.now a.places.now c.requires c.if-held.false _
    c.put-2.ensures
