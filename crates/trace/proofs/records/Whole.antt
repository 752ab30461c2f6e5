-- Records that are cut short, and whole ones. Assumes nothing.
use mathlib.Core.Path.{◌≡◌, refl, sym, ap, ◌∙◌}
use mathlib.Core.List.{List}
use Prim.Native.Nat.{ℕ, ◌+◌, ◌<◌, ◌≤◌}
use borrow.Author.Tests.{le-leb, lt-leb}
use lib.ListN.{length}
use Rattle.std.specs.Prelude.{Option, Some, None}
use Rattle.trace.specs.records.Records.{size_of, size_by, kind_at, fields_at, whole_at, record_at}
use Rattle.trace.specs.declared.records.Kind.{Kind}
use Rattle.trace.specs.declared.records.Record.{Record}

module _ (p : List ℕ) (at : ℕ) where
  short_by : (k : Option Kind) → length p < at + size_by k → None ≡ whole_at p at k
  short_by (Some k) h = simp (lt-leb (at + size_of k) (length p) h)
  short_by None h = refl

  pub record_short : (k : Option Kind) → k ≡ kind_at p at → length p < at + size_by k → None ≡ record_at p at
  unfolding record_at
  record_short k e h = short_by k h ∙ ap (whole_at p at) e

  pub record_unknown : None ≡ kind_at p at → None ≡ record_at p at
  unfolding record_at
  record_unknown e = ap (whole_at p at) e

  pub record_whole : (k : Kind) (r : Option Record) → Some k ≡ kind_at p at → at + size_of k ≤ length p → r ≡ fields_at p at k → r ≡ record_at p at
  unfolding record_at
  record_whole k r e h er =
      let whole : whole_at p at (Some k) ≡ fields_at p at k = simp (le-leb (at + size_of k) (length p) h) in
      er ∙ sym whole ∙ ap (whole_at p at) e
