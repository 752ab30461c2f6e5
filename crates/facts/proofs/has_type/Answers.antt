use Rattle.std.proofs.Common.{rules}
use Prim.Native.Nat.{ℕ}
use lib.Dec.{eqb}
use Rattle.facts.specs.Types.{some_of}
use Rattle.facts.proofs.has_type.Goals as goal

pub returns : goal.returns
unfolding some_of
returns c = c.some_passes.ensures (λ (n : ℕ). eqb n c.args.rtype) (λ rtype b small post. search rules)
