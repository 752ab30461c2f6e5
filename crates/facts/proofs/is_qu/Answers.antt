use Prim.Native.Nat.{◌%◌}
use mathlib.Core.Path.{◌≡◌, sym, ap}
use native.Mathlib.Omega.{arith}
use lib.Dec.{leb}
use Rattle.facts.proofs.is_qu.Goals as goal

pub returns : goal.returns
returns c = let small : c.args.class % 65536 ≡ c.args.class = omega arith in ap (leb 32768) (sym small)
