use Rattle.claims.specs.declared.records.Own.{Own}
use mathlib.Core.Path.{ap, ◌∙◌}
use mathlib.Core.Bool.{false, ◌||◌}
use native.Mathlib.Omega.{arith}
use Rattle.wire.specs.message.Readable.{question_shown}
use Rattle.claims.specs.records.Own.{has}
use Rattle.claims.proofs.records.Filled.{none_filled, next_filled, set-filled}
use Rattle.facts.specs.Facts.{asks_own}
use Rattle.facts.proofs.asked_with.Goals as goal

pub loop-i-init : goal.loop-i-init
loop-i-init c = (omega arith, none_filled false _)

pub loop-i-preserved : goal.loop-i-preserved
loop-i-preserved c = (
  omega arith,
  let a = c.args in
      next_filled false _ _ _ _ c.loop-i.invariant.1
      (c.is_asked.ensures ∙ ap (λ (o : Own). has o a.asked || asks_own a.setup o (question_shown a.p.now a.q))
      c.record_at.ensures),
)

pub returns : goal.returns
returns c = set-filled _ _ _ _ c.set_of.ensures (omega arith) c.loop-i.invariant.0 c.loop-i.invariant.1
