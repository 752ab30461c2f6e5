use mathlib.Core.Path.{refl, sym, ◌∙◌}
use native.Mathlib.Omega.{arith}
use Rattle.txt.proofs.Strings.{string_in, fill_rest, found, not_found, from_start, no_more}
use Rattle.txt.proofs.find.Goals as goal

pub loop-at-init : goal.loop-at-init
loop-at-init c = (omega arith, refl, from_start _ _ _)

pub overflow_add-end : goal.overflow_add-end
overflow_add-end c = omega (arith, string_in _ c.loop-at.at _ c.loop-at-test.true refl c.requires c.loop-at.invariant.1)

pub slice_bounds-has_key-end : goal.slice_bounds-has_key-end
slice_bounds-has_key-end c = omega (arith, string_in _ c.loop-at.at _ c.loop-at-test.true refl c.requires c.loop-at.invariant.1)

pub given-requires : goal.given-requires
given-requires c = (omega arith, string_in _ c.loop-at.at _ c.loop-at-test.true refl c.requires c.loop-at.invariant.1)

pub returns-then-has_key : goal.returns-then-has_key
returns-then-has_key c = c.given.ensures ∙ sym (found _ c.loop-at.at _ c.loop-at-test.true refl c.requires c.loop-at.invariant.1 _ _ c.loop-at.invariant.2 (sym c.has_key.ensures ∙ c.if-has_key.true))

pub loop-at-preserved : goal.loop-at-preserved
loop-at-preserved c = (
  string_in _ c.loop-at.at _ c.loop-at-test.true refl c.requires c.loop-at.invariant.1,
  fill_rest _ c.loop-at.at _ c.loop-at-test.true refl c.requires c.loop-at.invariant.1,
  not_found _ c.loop-at.at _ c.loop-at-test.true refl c.requires c.loop-at.invariant.1 _ _ c.loop-at.invariant.2 (sym c.has_key.ensures ∙ c.if-has_key.false),
)

pub returns : goal.returns
returns c = no_more _ _ _ _ c.loop-at-test.false c.loop-at.invariant.2
