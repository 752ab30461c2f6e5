use Rattle.wire.proofs.rdata.Forms.{next_bad, next_long, next_fits, next_ends, next_other, next_cut, next_none, next_there}
use Rattle.wire.proofs.rdata.next_form.Goals as goal

pub slice_bounds-b-end : goal.slice_bounds-b-end
slice_bounds-b-end c = let a = c.args in next_fits a.p.now a.owner a.at a.d.now _ c.expand-e.ensures _ c.in-Some.is

pub slice_bounds-name_is-end : goal.slice_bounds-name_is-end
slice_bounds-name_is-end c = let a = c.args in next_long a.p.now a.owner a.at a.d.now _ c.expand-e.ensures _ c.in-Some.is

pub returns-then-not-name_is : goal.returns-then-not-name_is
returns-then-not-name_is c = let a = c.args in next_other a.p.now a.owner a.at a.d.now _ c.expand-e.ensures _ c.in-Some.is _ c.name_is.ensures (c.if-not-name_is.true) _ c.form_of.ensures

pub overflow_sub-own : goal.overflow_sub-own
overflow_sub-own c = let a = c.args in next_ends a.p.now a.owner a.at a.d.now _ c.expand-e.ensures _ c.in-Some.is

pub returns-then-d-own : goal.returns-then-d-own
returns-then-d-own c = let a = c.args in next_cut a.p.now a.owner a.at a.d.now _ c.expand-e.ensures _ c.in-Some.is _ c.name_is.ensures (c.if-not-name_is.false) c.if-d-own.true _ c.form_of-then-d-own.ensures

pub returns-then-not-is_block : goal.returns-then-not-is_block
returns-then-not-is_block c = let a = c.args in next_none a.p.now a.owner a.at a.d.now _ c.expand-e.ensures _ c.in-Some.is _ c.name_is.ensures _ c.is_block.ensures (c.if-not-name_is.false) (c.if-not-is_block.true) _ c.form_of-then-not-is_block.ensures

pub returns-else-not-is_block : goal.returns-else-not-is_block
returns-else-not-is_block c = let a = c.args in next_there a.p.now a.owner a.at a.d.now _ c.expand-e.ensures _ c.in-Some.is _ c.name_is.ensures _ c.is_block.ensures (c.if-not-name_is.false) (c.if-not-is_block.false)

pub returns-in-None : goal.returns-in-None
returns-in-None c = let a = c.args in next_bad a.p.now a.owner a.at a.d.now _ c.expand-e.ensures c.in-None.is _ c.form_of-in-None.ensures
