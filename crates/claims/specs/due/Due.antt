-- When a responder's next step is due: the earliest of the steps that a tick walks (specification, 'A claim's life'). Assumes nothing: these are definitions.
use Rattle.std.specs.Prelude.{ℕ, cond, List, [], ◌∷◌, leb, Option, Some, None}
use Rattle.claims.specs.steps.Steps.{steps, step_due}
use Rattle.claims.specs.declared.Progress.{Progress}
use Rattle.claims.specs.declared.steps.Step.{Step}

-- the earlier of two
abbrev pub earliest : Option ℕ → Option ℕ → Option ℕ
earliest None b = b
earliest (Some a) None = Some a
earliest (Some a) (Some b) = cond (leb a b) (Some a) (Some b)

-- the earliest of one time and those of some steps
unfoldable pub earliest_of : Progress → Option ℕ → List Step → Option ℕ
earliest_of progress first [] = first
earliest_of progress first (s ∷ ss) = earliest_of progress (earliest first (step_due s progress)) ss

unfoldable pub next_due : Progress → Option ℕ
next_due progress = earliest_of progress None steps
