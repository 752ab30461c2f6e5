-- The event that begins with the record that was read. Assumes nothing.
use mathlib.Core.Path.{◌≡◌, refl, sym, ap, ◌∙◌}
use mathlib.Core.List.{List}
use mathlib.Core.Bool.{Bool, true, false}
use Prim.Native.Nat.{ℕ, ◌+◌, ◌<◌, ◌≤◌}
use borrow.Author.Tests.{le-leb, lt-leb}
use lib.ListN.{length}
use Rattle.std.specs.Prelude.{Option, Some, None, Result, Ok}
use Rattle.trace.specs.reading.Reading.{refused}
use Rattle.trace.specs.declared.reading.Refused.{Refused}
use Rattle.claims.specs.declared.holds.Address.{Address}
use Rattle.trace.specs.records.Records.{size_of, record_at}
use Rattle.trace.specs.reading.Reading.{is_usual, pieces_of, pieces_at, data_step, with_data, behind_source, step_with, step_at}
use Rattle.trace.specs.declared.records.Record.{Record}
use Rattle.trace.specs.declared.records.Record.TheVariants as is
use Rattle.trace.specs.declared.reading.Event.{Event}
use Rattle.trace.proofs.records.Standing.{kind_in, stand}

pub with-data_of : (p : List ℕ) (e : Event) (first len : ℕ) (x y : Result ℕ Refused) → x ≡ pieces_at (pieces_of len) p first len → x ≡ y
    → data_step e first len y ≡ with_data p e first len
unfolding with_data
with-data_of p e first len x y ex exy = ap (data_step e first len) (sym exy ∙ ex)

module _ (p : List ℕ) (at : ℕ) (r : Option Record) (er : r ≡ record_at p at) where
  pub whole_of : (q : Record) → r ≡ Some q → at + size_of (kind_in q) ≤ length p
  whole_of q e = (stand p at q (sym er ∙ e)).whole

  pub step_of : (q : Option Record) → r ≡ q → at < length p → step_with p at q ≡ step_at p at
  unfolding step_at
  step_of q e h = rw (lt-leb (length p) at h, ← er, e)

  pub usual_stops : (from : Address) (hold : ℕ) → r ≡ Some (is.Source from hold) → (u : Bool) → u ≡ is_usual from hold → u ≡ true → at < length p
      → refused at ≡ step_at p at
  usual_stops from hold e u eu ut h = sym (sym (step_of _ e h) ∙ simp (sym eu ∙ ut))

  pub source_goes : (from : Address) (hold : ℕ) → r ≡ Some (is.Source from hold) → (u : Bool) → u ≡ is_usual from hold → u ≡ false → at < length p
      → behind_source p (at + 19) from hold (record_at p (at + 19)) ≡ step_at p at
  source_goes from hold e u eu uf h = sym (sym (step_of _ e h) ∙ simp (sym eu ∙ uf))

  pub behind-of : (from : Address) (hold : ℕ) (q : Option Record) → r ≡ q → behind_source p at from hold q ≡ behind_source p at from hold (record_at p at)
  behind-of from hold q e = ap (behind_source p at from hold) (sym e ∙ er)

  pub behind-other : (from : Address) (hold : ℕ) (q : Record) → r ≡ Some q → ((time port draw len : ℕ) → q ≡ is.Packet time port draw len → ⊥)
      → refused at ≡ behind_source p at from hold (record_at p at)
  behind-other from hold q eq h = go q h ∙ ap (behind_source p at from hold) (sym eq ∙ er)
    where
      go : (q : Record) → ((time port draw len : ℕ) → q ≡ is.Packet time port draw len → ⊥) → refused at ≡ behind_source p at from hold (Some q)
      go (is.Tick time) h = refl
      go (is.Packet time port draw len) h = absurd (h time port draw len refl)
      go is.Piece h = refl
      go (is.Claim last claim state) h = refl
      go (is.Source from2 hold2) h = refl
      go (is.Stop time) h = refl
      go (is.Port time port) h = refl
      go (is.Txt time len) h = refl

pub step_end : (p : List ℕ) (at : ℕ) → length p ≤ at → Ok None ≡ step_at p at
unfolding step_at
step_end p at h = simp (le-leb (length p) at h)
