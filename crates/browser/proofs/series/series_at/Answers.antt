use Prim.Native.Nat.{ℕ, ◌+◌}
use mathlib.Core.Path.{sym, ap, ◌∙◌}
use native.Mathlib.Omega.{arith}
use borrow.Author.Tests.{eq-eqb, ne_eqb}
use Rattle.browser.specs.series.Series.{series_at}
use Rattle.browser.proofs.series.Gaps.{gap_most}
use Rattle.browser.proofs.series.series_at.Goals as goal

pub overflow_add-result : goal.overflow_add-result
overflow_add-result c = record { fits = omega (arith, c.requires.draw, c.requires.series) }

pub returns-then-b-eq0 : goal.returns-then-b-eq0
unfolding series_at
returns-then-b-eq0 c = sym (simp (eq-eqb _ _ c.if-b-eq0.true))

pub overflow_add-result-2 : goal.overflow_add-result-2
overflow_add-result-2 c = record {
  fits = omega (
    arith,
    c.gap_after.ensures,
    gap_most c.args.b.count,
    c.requires.series,
  );
}

pub returns : goal.returns
unfolding series_at
returns c = ap (λ (g : ℕ). c.args.b.series + g) c.gap_after.ensures
    ∙ sym (simp (ne_eqb _ _ c.if-b-eq0.false))
