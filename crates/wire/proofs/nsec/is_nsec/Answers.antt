use native.Mathlib.Omega.{arith}
use mathlib.Core.Path.{sym}
use lib.ListN.{length}
use lib.Seq.{length-take-le}
use Rattle.wire.proofs.names.Compare.{to_end}
use Rattle.wire.proofs.nsec.Blocks.{nsec_short, nsec_other, nsec_by_block}
use Rattle.wire.proofs.nsec.is_nsec.Goals as goal

pub returns-then-d-n : goal.returns-then-d-n
returns-then-d-n c = let a = c.args in nsec_short a.owner.now a.d.now (omega arith)

pub slice_bounds-same_name-end : goal.slice_bounds-same_name-end
slice_bounds-same_name-end c = let a = c.args in sym (length-take-le _ a.d.now (omega arith))

pub returns-then-not-same_name : goal.returns-then-not-same_name
returns-then-not-same_name c = let a = c.args in nsec_other a.owner.now a.d.now _ c.same_name.ensures (c.if-not-same_name.true)

pub returns : goal.returns
returns c = let a = c.args in nsec_by_block a.owner.now a.d.now _ c.same_name.ensures (c.if-not-same_name.false) _ (to_end a.d.now (length a.owner.now)) _ c.is_block.ensures
