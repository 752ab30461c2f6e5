use mathlib.Core.Path.{◌≡◌, ap}
use Prim.Native.Nat.{ℕ}
use native.Mathlib.Omega.{arith}
use lib.Dec.{eqb}
use Rattle.console_text.specs.fields.Forms.{arguments_of, has_arguments}
use Rattle.console_text.proofs.fields.has_arguments.Goals as goal

pub returns : goal.returns
unfolding has_arguments
returns c = let e : c.arguments.result ≡ arguments_of c.args.line.now = omega arith in
    ap (λ (k : ℕ). eqb k c.args.n) e
