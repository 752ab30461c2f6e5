-- The answers of the writer. Assumes nothing.
use mathlib.Core.Path.{◌≡◌, sym, ap, ◌∙◌}
use mathlib.Core.List.{List}
use Prim.Native.Nat.{ℕ, ◌+◌, ◌<◌, ◌≤◌}
use native.Mathlib.Omega.{arith}
use borrow.Author.Tests.{le-leb, lt-leb}
use lib.ListN.{length}
use lib.Seq.{sets}
use Rattle.std.specs.Prelude.{Result, Ok, Err}
use Rattle.trace.specs.reading.Events.{occurrence}
use Rattle.trace.specs.writing.Bytes.{bytes_of}
use Rattle.trace.specs.writing.Sizes.{size_for}
use Rattle.trace.specs.writing.Writing.{written_at, written_to, laid_by, out_after}
use Rattle.trace.specs.declared.reading.Event.{Event}
use Rattle.trace.specs.declared.writing.Unfit.{Unfit}
use Rattle.trace.specs.declared.writing.Unwritten.{Unwritten}
use Rattle.trace.specs.declared.writing.Unwritten.TheVariants as unwritten

past_any : (room at : ℕ) (s : Result ℕ Unfit) → room < at → Err unwritten.NoRoom ≡ written_at room at s
past_any room at (Err u) h = simp (lt-leb at room h)
past_any room at (Ok n) h = let k : room < at + n = omega arith in simp (lt-leb (at + n) room k)

module _ (out : List ℕ) (at : ℕ) (e : Event) (bytes : List ℕ) where
  Both : Result ℕ Unwritten → List ℕ → Type 0
  Both w o = (w ≡ written_to out at e bytes) × (o ≡ out_after out at e bytes)

  both : (w : Result ℕ Unwritten) → w ≡ written_to out at e bytes → (w ≡ written_to out at e bytes) × (laid_by out at (bytes_of (occurrence e bytes)) w ≡ out_after out at e bytes)
  both w q = (q, ap (laid_by out at (bytes_of (occurrence e bytes))) q)

  pub past : length out < at → (Err unwritten.NoRoom ≡ written_to out at e bytes) × (out ≡ out_after out at e bytes)
  unfolding written_to
  past h = both (Err unwritten.NoRoom) (past_any (length out) at (size_for e (length bytes)) h)

  module _ (s : Result ℕ Unfit) (es : s ≡ size_for e (length bytes)) where
    of_size : (t : Result ℕ Unfit) → s ≡ t → written_at (length out) at t ≡ written_to out at e bytes
    unfolding written_to
    of_size t q = ap (written_at (length out) at) (sym q ∙ es)

    pub unfit_written : (u : Unfit) → s ≡ Err u → at ≤ length out
        → (Err (unwritten.Unfit (at + u.behind)) ≡ written_to out at e bytes) × (out ≡ out_after out at e bytes)
    unfit_written u q h = both (Err (unwritten.Unfit (at + u.behind))) (sym (simp (le-leb at (length out) h)) ∙ of_size (Err u) q)

    pub short_written : (n : ℕ) → s ≡ Ok n → length out < at + n → (Err unwritten.NoRoom ≡ written_to out at e bytes) × (out ≡ out_after out at e bytes)
    short_written n q h = both (Err unwritten.NoRoom) (sym (simp (lt-leb (at + n) (length out) h)) ∙ of_size (Ok n) q)

    pub end_written : (n : ℕ) → s ≡ Ok n → at + n ≤ length out → (o : List ℕ) → o ≡ sets out at (bytes_of (occurrence e bytes))
        → (Ok (at + n) ≡ written_to out at e bytes) × (o ≡ out_after out at e bytes)
    end_written n q h o eo =
        let b = both (Ok (at + n)) (sym (simp (le-leb (at + n) (length out) h)) ∙ of_size (Ok n) q) in
        (b.0, eo ∙ b.1)
