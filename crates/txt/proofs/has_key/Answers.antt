use mathlib.Core.Path.{sym}
use native.Mathlib.Omega.{arith}
use lib.Seq.{length-take-le}
use Rattle.txt.proofs.Pairs.{key_fits}
use Rattle.txt.proofs.has_key.Goals as goal

pub slice_bounds-same_name-end : goal.slice_bounds-same_name-end
slice_bounds-same_name-end c = sym (length-take-le _ _ (omega (arith, key_fits c.args.s.now, c.key_len-n.ensures)))
