use native.Mathlib.Omega.{arith}
use mathlib.Core.Path.{sym}
use lib.ListN.{length-take}
use lib.Seq.{length-take-le}
use Rattle.own.proofs.records.Laying.{held_least}
use Rattle.own.proofs.records.put_held.Goals as goal

pub slice_bounds-put_label-end : goal.slice_bounds-put_label-end
slice_bounds-put_label-end c = sym (length-take-le _ c.args.bytes.now (omega (arith, c.min.ensures)))

pub put_label-requires : goal.put_label-requires
put_label-requires c = (omega (arith, length-take c.min.result c.args.bytes.now), omega (arith, length-take c.min.result c.args.bytes.now))

pub returns : goal.returns
returns c = held_least _ _ _ c.args.len c.args.bytes.now _ _ c.min.ensures c.put_label.ensures
