use Rattle.std.proofs.Common.{rules}
use Rattle.facts.specs.Types.{can_conflict, some_type}
use Rattle.facts.proofs.some_type.Goals as goal

pub returns : goal.returns
unfolding some_type
returns c = c.some_passes.ensures can_conflict (λ rtype b small post. search rules)
