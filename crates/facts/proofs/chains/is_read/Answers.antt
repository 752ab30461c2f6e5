use mathlib.Core.Path.{sym, ◌∙◌}
use native.Mathlib.Omega.{arith}
use Rattle.facts.proofs.chains.Read.{sections_read}
use Rattle.facts.proofs.chains.is_read.Goals as goal
use Rattle.facts.proofs.chains.is_read.Goals.{then-same_section, else-same_section, then-same_section-2, else-same_section-2}

pub returns-then-same_section-3 : goal.returns-then-same_section-3
returns-then-same_section-3 c = λ t. elim c.if-same_section-2.branch [
  | then-same_section-2 w ↦ elim c.if-same_section.branch [
    | then-same_section v ↦ sections_read _ _ _ c.read_long.ensures _ c.in-Ok.is (omega arith) (c.same_section.ensures v.if-same_section.true)
        (v.same_section-then-same_section.ensures (sym v.value-is ∙ w.if-same_section-2.true))
        (w.same_section-then-same_section-2.ensures (sym w.value-is ∙ c.if-same_section-3.true)) (c.same_section-then-same_section-3.ensures t)
    | else-same_section v ↦ cc
  ]
  | else-same_section-2 w ↦ cc
]
