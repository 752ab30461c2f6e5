-- Theorem: "Reading what was written gives the same events." Assumes nothing.
use mathlib.Core.Path.{◌≡◌, refl, sym, ap, ◌∙◌}
use mathlib.Core.List.{List, [], ◌∷◌, ◌++◌}
use mathlib.Core.Bool.{Bool, true, false, cond, ◌&&◌}
use Prim.Native.Nat.{ℕ, ◌+◌, ◌*◌, ◌<◌, ◌≤◌}
use native.Mathlib.Omega.{arith}
use borrow.Author.Tests.{ltb-true, eqb-true}
use lib.ListN.{length, drop, length-drop}
use lib.Dec.{eqb}
use Rattle.std.specs.Prelude.{Option, Some, None, Result, Ok, Err}
use Rattle.trace.specs.reading.Reading.{refused}
use Rattle.trace.specs.declared.writing.Unfit.{Unfit}
use Rattle.claims.specs.declared.holds.Address.{Address}
use Rattle.trace.specs.records.Numbers.{bytes16, bytes64}
use Rattle.trace.specs.records.Records.{record_at}
use Rattle.trace.specs.reading.Reading.{no_source, usual_hold, is_usual, pieces_of, data_step, with_data, alone_step, behind_source, step_with, step_at}
use Rattle.trace.specs.reading.Events.{Occurrence, tick, packet, claim, stop, port, txt, occurrence, data_from, data_in, within, read_from, reading_of}
use Rattle.trace.specs.writing.Bytes.{headed, pieces_for, source_bytes, packet_numbers, packet_bytes, bytes_of, trace_of}
use Rattle.trace.specs.writing.Sizes.{fits64, is_wide, is_size, size_for, can_be_written, all_can_be_written}
use Rattle.trace.specs.declared.records.Record.{Record}
use Rattle.trace.specs.declared.records.Record.TheVariants as is
use Rattle.trace.specs.declared.reading.Event.{Event}
use Rattle.trace.specs.declared.reading.Event.TheVariants as event
use Rattle.trace.specs.declared.reading.Entry.{Entry}
use Rattle.trace.proofs.records.Standing.{never}
use Rattle.trace.proofs.reading.Begun.{step_of, step_end}
use Rattle.trace.proofs.reading.Unrolled.{unroll}
use Rattle.trace.proofs.writing.Laid.{length-source, length-packet}
use Rattle.trace.proofs.writing.Fitting.{claim_fits}
use Rattle.trace.proofs.Stands.{Stands, front, behind, after}
use Rattle.trace.proofs.Stands as stands
use Rattle.trace.proofs.Fields.{tick-read, stop-read, port-read, txt-read, claim_read, packet_read, source_read}
use Rattle.trace.proofs.PiecesBack.{length-pieces, pieces_back}

-- the event that stands at `at`, with `rest` behind it
pub record Back (p : List ℕ) (at : ℕ) (o : Occurrence) (rest : List ℕ) : Type 0 where
  pub entry : Entry
  pub step : step_at p at ≡ Ok (Some entry)
  pub same : occurrence entry.event (data_in p entry) ≡ o
  pub next : drop entry.next p ≡ rest

pub both : (a b : Bool) → (a && b) ≡ true → (a ≡ true) × (b ≡ true)
both true true e = (refl, refl)
both true false e = never e
both false b e = never e

wide : (n : ℕ) → fits64 n ≡ true → n < 18446744073709551616
wide n e = ltb-true n 18446744073709551616 e

pub sized : (s : Result ℕ Unfit) → is_size s ≡ true → (n : ℕ) × (s ≡ Ok n)
sized (Ok n) e = (n, refl)
sized (Err u) e = never e

module _ {p : List ℕ} {at : ℕ} {rest : List ℕ} where
  in_trace : (b : ℕ) (x : List ℕ) → Stands p at (b ∷ x) rest → at < length p
  in_trace b x s = omega (arith, stands.within (b ∷ x) s (omega arith))

  begun : (b : ℕ) (x : List ℕ) → Stands p at (b ∷ x) rest → (r : Option Record) → record_at p at ≡ r → step_at p at ≡ step_with p at r
  begun b x s r e = sym (step_of p at (record_at p at) refl r e (in_trace b x s))

-- an event that brings bytes
data_back : {p : List ℕ} {rest : List ℕ} (v : Event) (first : ℕ) (bytes : List ℕ) → Stands p first (pieces_for bytes) rest
    → (with_data p v first (length bytes) ≡ Ok (Some (record { event = v; first = first; len = length bytes; next = first + 17 * pieces_of (length bytes) })))
    × (data_from (pieces_of (length bytes)) p first (length bytes) ≡ bytes) × (drop (first + 17 * pieces_of (length bytes)) p ≡ rest)
unfolding with_data
data_back {p} {rest} v first bytes s =
    let known = pieces_back (pieces_of (length bytes)) bytes refl s in (
      ap (data_step v first (length bytes)) known.0,
      known.1,
      after (pieces_for bytes) s (17 * pieces_of (length bytes)) (length-pieces (pieces_of (length bytes)) bytes),
    )

-- the records of a packet, behind that of its source or without one
packet_back : {p : List ℕ} {at : ℕ} {rest : List ℕ} (time : ℕ) (from : Address) (q draw hold : ℕ) (bytes : List ℕ) → time < 18446744073709551616
    → Stands p at (packet_bytes time q draw bytes) rest
    → (record_at p at ≡ Some (is.Packet time q draw (length bytes)))
    × (with_data p (event.Packet time from q draw hold) (at + 14) (length bytes)
    ≡ Ok (Some (record { event = event.Packet time from q draw hold; first = at + 14; len = length bytes; next = at + 14 + 17 * pieces_of (length bytes) })))
    × (data_from (pieces_of (length bytes)) p (at + 14) (length bytes) ≡ bytes) × (drop (at + 14 + 17 * pieces_of (length bytes)) p ≡ rest)
packet_back {p} {at} time from q draw hold bytes h s =
    let numbers = headed 2 time ++ packet_numbers q draw (length bytes) in
    let d = data_back (event.Packet time from q draw hold) (at + 14) bytes
    (behind numbers (pieces_for bytes) s 14 (length-packet time q draw (length bytes))) in
    (packet_read time q draw (length bytes) h (front numbers (pieces_for bytes) s), d.0, d.1, d.2)

-- the usual source is that one alone
usual_by : (high low hold : ℕ) (a : Bool) → eqb high 0 ≡ a → (b : Bool) → eqb low 0 ≡ b → (c : Bool) → eqb hold 400 ≡ c → (a && (b && c)) ≡ true
    → (high ≡ 0) × (low ≡ 0) × (hold ≡ 400)
usual_by high low hold true ea true eb true ec e = (eqb-true high 0 ea, eqb-true low 0 eb, eqb-true hold 400 ec)
usual_by high low hold true ea true eb false ec e = never e
usual_by high low hold true ea false eb c ec e = never e
usual_by high low hold false ea b eb c ec e = never e

pub usual_source : (from : Address) (hold : ℕ) → is_usual from hold ≡ true → (no_source ≡ from) × (usual_hold ≡ hold)
usual_source from hold e =
    let known = usual_by from.high from.low hold (eqb from.high 0) refl (eqb from.low 0) refl (eqb hold 400) refl e in
    ((λ i. record { high = sym known.0 i; low = sym known.1 i }), sym known.2)

module _ {p : List ℕ} {at : ℕ} {rest : List ℕ} (time : ℕ) (from : Address) (q draw hold : ℕ) (bytes : List ℕ) where
  usual_back : time < 18446744073709551616 → is_usual from hold ≡ true → Stands p at (packet_bytes time q draw bytes) rest
      → Back p at (packet time from q draw hold bytes) rest
  usual_back h u s =
      let known = packet_back time no_source q draw usual_hold bytes h s in
      let is-usual = usual_source from hold u in
      record {
        entry = record {
          event = event.Packet time no_source q draw usual_hold;
          first = at + 14;
          len = length bytes;
          next = at + 14 + 17 * pieces_of (length bytes);
        };
        step = begun 2 _ s _ known.0 ∙ known.1;
        same = λ i. packet time (is-usual.0 i) q draw (is-usual.1 i) (known.2 i);
        next = known.3;
      }

  sourced_back : time < 18446744073709551616 → from.high < 18446744073709551616 → from.low < 18446744073709551616 → is_usual from hold ≡ false
      → Stands p at (source_bytes from hold ++ packet_bytes time q draw bytes) rest → Back p at (packet time from q draw hold bytes) rest
  sourced_back h hh hl u s =
      let first = source_read from hold hh hl (front (source_bytes from hold) (packet_bytes time q draw bytes) s) in
      let behind-it = behind (source_bytes from hold) (packet_bytes time q draw bytes) s 19 (length-source from hold) in
      let known = packet_back time from q draw hold bytes h behind-it in
      record {
        entry = record {
          event = event.Packet time from q draw hold;
          first = at + 19 + 14;
          len = length bytes;
          next = at + 19 + 14 + 17 * pieces_of (length bytes);
        };
        step =
            begun 5 _ s _ first
            ∙ ap (λ (b : Bool). cond b (refused at) (behind_source p (at + 19) from hold (record_at p (at + 19)))) u
            ∙ ap (behind_source p (at + 19) from hold) known.0
            ∙ known.1;
        same = ap (packet time from q draw hold) known.2;
        next = known.3;
      }

  packet_stands : is_wide (packet time from q draw hold bytes) ≡ true → (b : Bool) → is_usual from hold ≡ b
      → Stands p at (cond b [] (source_bytes from hold) ++ packet_bytes time q draw bytes) rest → Back p at (packet time from q draw hold bytes) rest
  packet_stands w true eb s = usual_back (wide time (both (fits64 time) _ w).0) eb s
  packet_stands w false eb s =
      let parts = both (fits64 time) (fits64 from.high && fits64 from.low) w in
      let halves = both (fits64 from.high) (fits64 from.low) parts.1 in
      sourced_back (wide time parts.0) (wide from.high halves.0) (wide from.low halves.1) eb s

-- an event without bytes
alone-back : {p : List ℕ} {at : ℕ} {rest : List ℕ} (o : Occurrence) (v : Event) (x : List ℕ) (n : ℕ) → length x ≡ n → occurrence v [] ≡ o
    → step_at p at ≡ alone_step v (at + n) → Stands p at x rest → Back p at o rest
unfolding data_from
alone-back {p} {at} o v x n en eo es s = record {
  entry = record { event = v; first = at + n; len = 0; next = at + n };
  step = es;
  same = eo;
  next = after x s n en;
}

-- each event that can be written is read back, wherever it stands
pub event_back : (o : Occurrence) → can_be_written o ≡ true → {p : List ℕ} {at : ℕ} {rest : List ℕ} → Stands p at (bytes_of o) rest → Back p at o rest
unfolding bytes64
event_back (tick time) w s =
    alone-back (tick time) (event.Tick time) (headed 1 time) 9 refl refl (begun 1 _ s _ (tick-read time (wide time (both (fits64 time) _ w).0) s)) s
event_back (packet time from q draw hold bytes) w s = packet_stands time from q draw hold bytes (both (is_wide (packet time from q draw hold bytes)) _ w).0 (is_usual from hold) refl s
event_back (claim last k state) w s =
    let size-known = sized (size_for (event.Claim last k state) 0) (both (fits64 last) _ w).1 in
    let fits = claim_fits k state size-known.0 size-known.1 in
    alone-back (claim last k state) (event.Claim last k state) (headed 4 last ++ (k ∷ state ∷ [])) 11 refl refl
    (begun 4 _ s _ (claim_read last k state (wide last (both (fits64 last) _ w).0) fits.0 fits.1 s)) s
event_back (stop time) w s =
    alone-back (stop time) (event.Stop time) (headed 6 time) 9 refl refl (begun 6 _ s _ (stop-read time (wide time (both (fits64 time) _ w).0) s)) s
event_back (port time q) w s =
    alone-back (port time q) (event.Port time q) (headed 7 time ++ bytes16 q) 11 refl refl
    (begun 7 _ s _ (port-read time q (wide time (both (fits64 time) _ w).0) s)) s
event_back (txt time bytes) w {p} {at} s =
    let numbers = headed 8 time ++ bytes16 (length bytes) in
    let first = txt-read time (length bytes) (wide time (both (fits64 time) _ w).0) (front numbers (pieces_for bytes) s) in
    let d = data_back (event.Txt time) (at + 11) bytes (behind numbers (pieces_for bytes) s 11 refl) in
    record {
      entry = record { event = event.Txt time; first = at + 11; len = length bytes; next = at + 11 + 17 * pieces_of (length bytes) };
      step = begun 8 _ s _ first ∙ d.0;
      same = ap (txt time) d.1;
      next = d.2;
    }

-- a list of events, wherever its trace stands and ends the whole
from_back : (os : List Occurrence) → all_can_be_written os ≡ true → (p : List ℕ) (at : ℕ) → drop at p ≡ trace_of os
    → read_from p at ≡ record { events = os; fault = None }
unfolding all_can_be_written trace_of
from_back [] w p at e =
    let past : length p ≤ at = omega (arith, length-drop at p, ap length e) in
    unroll p at ∙ ap (within p (read_from p)) (sym (step_end p at past))
from_back (o ∷ os) w p at e =
    let parts = both (can_be_written o) (all_can_be_written os) w in
    let known = event_back o parts.0 (record { is = e }) in
    let rest = from_back os parts.1 p known.entry.next known.next in
    unroll p at ∙ ap (within p (read_from p)) known.step ∙ (λ i. record { events = known.same i ∷ (rest i).events; fault = (rest i).fault })

-- the theorem: the trace of events that can be written is read as those events, with no refusal
pub read_back : (os : List Occurrence) → all_can_be_written os ≡ true → reading_of (trace_of os) ≡ record { events = os; fault = None }
read_back os w = from_back os w (trace_of os) 0 refl
