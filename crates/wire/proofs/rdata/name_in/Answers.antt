use mathlib.Core.Path.{◌∙◌}
use native.Mathlib.Omega.{arith}
use Rattle.wire.proofs.rdata.Parts.{name-outside, name-short, name-bad, name-ends, name-elsewhere}
use Rattle.wire.proofs.rdata.name_in.Goals as goal

pub returns-then-p-at : goal.returns-then-p-at
returns-then-p-at c = name-outside _ _ _ _ _ (omega arith)

pub returns-then-p-at-2 : goal.returns-then-p-at-2
returns-then-p-at-2 c = name-outside _ _ _ _ _ (omega arith)

pub returns-then-d-behind : goal.returns-then-d-behind
returns-then-d-behind c = name-short _ _ _ _ _ (omega arith) (omega arith)

pub returns-then-d-behind-2 : goal.returns-then-d-behind-2
returns-then-d-behind-2 c = name-short _ _ _ _ _ (omega arith) (omega arith)

pub returns-then-span-at : goal.returns-then-span-at
returns-then-span-at c = name-ends _ _ _ _ _ (omega arith) (omega arith) _ c.name_at.ensures _ c.in_ok-span.was (omega arith)

pub returns-else-span-at : goal.returns-else-span-at
returns-else-span-at c = name-elsewhere _ _ _ _ _ (omega arith) (omega arith) _ c.name_at.ensures _ c.in_ok-span.was (λ e. omega arith)

pub returns-in_err-span : goal.returns-in_err-span
returns-in_err-span c = c.from_residual.ensures ∙ name-bad _ _ _ _ _ (omega arith) (omega arith) _ c.name_at.ensures c.in_err-span.was
