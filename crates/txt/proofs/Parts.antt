-- The part that is shown for each answer: its bytes, and where it starts in memory. Assumes nothing.
use mathlib.Core.Path.{◌≡◌, ap, ◌∙◌}
use mathlib.Core.List.{List}
use Prim.Native.Nat.{ℕ, ◌+◌, ◌≤◌}
use native.Mathlib.Omega.{arith}
use lib.ListN.{length}
use borrow.Author.Tests.{le-leb}
use Rattle.wire.specs.rdata.Answers.{start_in}
use Rattle.txt.specs.Lookup.{lookup_of, part_of, shown_of, holder, bytes_of, stands_from}
use Rattle.txt.specs.declared.Held.{Held}
use Rattle.txt.specs.declared.Answer.{Answer}
use Rattle.txt.proofs.Use.{shown-inside}

module _ (received factory : List ℕ) (pr pf : ℕ × ℕ) where
  -- where the part of an answer starts
  abbrev placed : Held → ℕ × ℕ
  placed h = start_in (holder h.buffer received factory) h.at (holder h.buffer pr pf)

-- a part that lies in its buffer starts at its place there
starts-inside : (p : List ℕ) (at : ℕ) (place : ℕ × ℕ) → at ≤ length p → start_in p at place ≡ (place.0, at + place.1)
starts-inside p at place h = simp (le-leb _ _ h)

-- the part that `part_of` gives for the answer of a lookup is the one that the lookup shows
module _ (key received factory : List ℕ) (pr pf : ℕ × ℕ) (a : Answer) (e : a ≡ lookup_of key received factory) (bytes : List ℕ) (at : ℕ × ℕ) where
  pub looked_up : (bytes ≡ bytes_of (part_of a) received factory) × (at ≡ placed received factory pr pf (part_of a))
      → (bytes ≡ bytes_of (shown_of key received factory) received factory) × (at ≡ stands_from (shown_of key received factory) pr pf)
  looked_up is =
      let h = shown_of key received factory in
      let i = shown-inside key received factory in (
        is.0 ∙ ap (λ (x : Answer). bytes_of (part_of x) received factory) e,
        is.1 ∙ ap (λ (x : Answer). placed received factory pr pf (part_of x)) e ∙ starts-inside (holder h.buffer received factory) h.at (holder h.buffer pr pf) (omega arith),
      )
