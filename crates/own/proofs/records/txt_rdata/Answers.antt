use native.Mathlib.Omega.{arith}
use mathlib.Core.Path.{sym}
use lib.Seq.{length-take-le}
use Rattle.own.proofs.records.Laying.{own_held}
use Rattle.own.proofs.records.txt_rdata.Goals as goal

pub slice_bounds-held-end : goal.slice_bounds-held-end
slice_bounds-held-end c = omega (arith, c.min-len.ensures, c.well_formed.0.1.1.0.1.0.1)

pub slice_bounds-put-end-2 : goal.slice_bounds-put-end-2
slice_bounds-put-end-2 c = sym (length-take-le _ c.args.t.bytes (omega (arith, c.min-len.ensures, c.well_formed.0.1.1.0.1.0.1)))

pub returns : goal.returns
returns c = own_held c.args.t.bytes _ c.args.t.len _ (c.well_formed.0.1.1.0.1.0.1) c.min-len.ensures c.put.ensures
