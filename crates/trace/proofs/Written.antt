-- Theorem: every trace that is read is the one that the writer writes for its events; so each list of events that can be written has exactly one trace.
-- Assumes nothing.
use mathlib.Core.Path.{◌≡◌, refl, sym, ap, subst, ◌∙◌}
use mathlib.Core.List.{List, ◌++◌}
use mathlib.Core.Bool.{Bool, true, false, cond, ◌&&◌}
use Prim.Native.Nat.{ℕ, zero, suc, ◌+◌, ◌-◌, ◌<◌, ◌≤◌}
use native.Mathlib.Omega.{arith}
use borrow.Author.Tests.{leb-true}
use lib.ListN.{length, drop, drop_of_length-le}
use lib.Dec.{leb}
use Rattle.std.specs.Prelude.{Option, Some, None, Result, Ok, Err}
use Rattle.trace.specs.reading.Reading.{Step, refused}
use Rattle.trace.specs.declared.reading.Refused.{Refused}
use Rattle.claims.specs.declared.holds.Address.{Address}
use Rattle.trace.specs.records.Records.{record_at}
use Rattle.trace.specs.reading.Reading.{is_usual, pieces_of, pieces_at, data_step, with_data, behind_source, step_with, step_at}
use Rattle.trace.specs.reading.Events.{occurrence, data_in, Reading, within, read_from, reading_of}
use Rattle.trace.specs.writing.Bytes.{bytes_of, trace_of}
use Rattle.trace.specs.writing.Sizes.{all_can_be_written}
use Rattle.trace.specs.declared.records.Record.{Record}
use Rattle.trace.specs.declared.records.Record.TheVariants as is
use Rattle.trace.specs.declared.reading.Event.{Event}
use Rattle.trace.proofs.records.Standing.{never}
use Rattle.trace.proofs.reading.Placed.{placed}
use Rattle.trace.proofs.reading.Unrolled.{unroll}
use Rattle.trace.proofs.Numbers.{Bytes}
use Rattle.trace.proofs.EventsWritten.{wrote}

abbrev is_end : Step → Bool
is_end (Ok None) = true
is_end (Ok (Some x)) = false
is_end (Err x) = false

-- where a record stands, the trace has not ended
module _ (p : List ℕ) where
  data_on : (v : Event) (first len : ℕ) → is_end (with_data p v first len) ≡ false
  unfolding with_data
  data_on v first len = go (pieces_at (pieces_of len) p first len)
    where
      go : (y : Result ℕ Refused) → is_end (data_step v first len y) ≡ false
      go (Ok n) = refl
      go (Err o) = refl

  behind-on : (at : ℕ) (from : Address) (hold : ℕ) (r : Option Record) → is_end (behind_source p at from hold r) ≡ false
  behind-on at from hold (Some (is.Packet time q draw len)) = data_on _ (at + 14) len
  behind-on at from hold (Some (is.Tick time)) = refl
  behind-on at from hold (Some is.Piece) = refl
  behind-on at from hold (Some (is.Claim last k state)) = refl
  behind-on at from hold (Some (is.Source from2 hold2)) = refl
  behind-on at from hold (Some (is.Stop time)) = refl
  behind-on at from hold (Some (is.Port time q)) = refl
  behind-on at from hold (Some (is.Txt time len)) = refl
  behind-on at from hold None = refl

  source_on : (at : ℕ) (from : Address) (hold : ℕ) (t : Bool)
      → is_end (cond t (refused at) (behind_source p (at + 19) from hold (record_at p (at + 19)))) ≡ false
  source_on at from hold true = refl
  source_on at from hold false = behind-on (at + 19) from hold (record_at p (at + 19))

  with-on : (at : ℕ) (r : Option Record) → is_end (step_with p at r) ≡ false
  with-on at (Some (is.Tick time)) = refl
  with-on at (Some (is.Packet time q draw len)) = data_on _ (at + 14) len
  with-on at (Some is.Piece) = refl
  with-on at (Some (is.Claim last k state)) = refl
  with-on at (Some (is.Source from hold)) = source_on at from hold (is_usual from hold)
  with-on at (Some (is.Stop time)) = refl
  with-on at (Some (is.Port time q)) = refl
  with-on at (Some (is.Txt time len)) = data_on _ (at + 11) len
  with-on at None = refl

  pub ended : (at : ℕ) → step_at p at ≡ Ok None → length p ≤ at
  unfolding step_at
  ended at e = go (leb (length p) at) refl e
    where
      go : (t : Bool) → leb (length p) at ≡ t → cond t (Ok None) (step_with p at (record_at p at)) ≡ Ok None → length p ≤ at
      go true et q = leb-true (length p) at et
      go false et q = never (sym (with-on at (record_at p at)) ∙ ap is_end q)

abbrev pub is_none : Option ℕ → Bool
is_none None = true
is_none (Some o) = false

-- what was read from an offset on, to the end, is what the writer writes for it
pub record Whole (p : List ℕ) (at : ℕ) (x : Reading) : Type 0 where
  pub bytes : drop at p ≡ trace_of x.events
  pub fits : all_can_be_written x.events ≡ true

module _ (p : List ℕ) (b : Bytes p) where
  from-written : (n at : ℕ) → length p - at < n → (read_from p at).fault ≡ None → Whole p at (read_from p at)
  unfolding trace_of all_can_be_written
  from-written zero at h f = absurd (omega arith)
  from-written (suc n) at h f =
      subst (Whole p at) (sym (unroll p at))
      (go (step_at p at) refl (sym (ap (λ (x : Reading). x.fault) (unroll p at)) ∙ f) (λ to a g. from-written n to a g))
    where
      go : (s : Step) → step_at p at ≡ s → (within p (read_from p) s).fault ≡ None
          → ((to : ℕ) → length p - to < n → (read_from p to).fault ≡ None → Whole p to (read_from p to)) → Whole p at (within p (read_from p) s)
      go (Ok None) es f rest = let past : length p ≤ at = ended p at es in record { bytes = drop_of_length-le p past; fits = refl }
      go (Ok (Some e)) es f rest =
          let place = placed p at e es in
          let here = wrote p b at e es in
          let others = rest e.next (omega arith) f in
          record {
            bytes = here.bytes ∙ ap (λ (l : List ℕ). bytes_of (occurrence e.event (data_in p e)) ++ l) others.bytes;
            fits = ap (λ (t : Bool). t && all_can_be_written (read_from p e.next).events) here.fits ∙ others.fits;
          }
      go (Err o) es f rest = never (ap is_none f)

  -- the theorem: a trace that is read is the trace of its events, and these can be written
  pub read_is_written : (reading_of p).fault ≡ None → (p ≡ trace_of (reading_of p).events) × (all_can_be_written (reading_of p).events ≡ true)
  read_is_written f = let known = from-written (suc (length p - 0)) 0 (omega arith) f in (known.bytes, known.fits)

-- so two traces that are read as the same events are the same
pub one-trace : (p q : List ℕ) → Bytes p → Bytes q → (reading_of p).fault ≡ None → (reading_of q).fault ≡ None → (reading_of p).events ≡ (reading_of q).events
    → p ≡ q
one-trace p q bp bq fp fq e = (read_is_written p bp fp).0 ∙ ap trace_of e ∙ sym (read_is_written q bq fq).0
