-- What is known of an event that was read: its port is one of 16 bits, and its bytes find room. Assumes nothing.
use mathlib.Core.Path.{◌≡◌, refl, sym, ap, ◌∙◌}
use mathlib.Core.List.{List}
use mathlib.Core.Bool.{true}
use Prim.Native.Nat.{ℕ, ◌-◌, ◌≤◌}
use borrow.Author.Tests.{le-leb}
use lib.ListN.{length, take, drop, replicate}
use lib.Seq.{sets, take_at}
use Rattle.wire.proofs.octets.Sets.{filled}
use Rattle.std.specs.Prelude.{Option, Some, None, Ok}
use Rattle.responder.specs.Calls.{refusal_of}
use Rattle.responder.specs.Runs.{Call, answer_to}
use Rattle.responder.specs.declared.State.{State}
use Rattle.responder.specs.declared.Answer.{Answer}
use Rattle.responder.specs.declared.Answer.TheVariants.{Refused, Quiet, Sent, Unicast, Both}
use Rattle.trace.specs.reading.Reading.{Step, step_at}
use Rattle.trace.specs.reading.Events.{Occurrence, packet, port, txt, occurrence, data_in, data_of, data_at}
use Rattle.trace.specs.writing.Sizes.{is_wide, size_for, source_size, packet_size, can_be_written}
use Rattle.trace.specs.declared.reading.Event.{Event}
use Rattle.trace.specs.declared.reading.Event.TheVariants as event
use Rattle.trace.specs.declared.reading.Entry.{Entry}
use Rattle.trace.proofs.writing.Fitting.{number_fits, packet_fits}
use Rattle.trace.proofs.Numbers.{Bytes}
use Rattle.trace.proofs.ReadBack.{both, sized}
use Rattle.trace.proofs.EventsWritten.{wrote}
use Rattle.playing.specs.Playing.{call_of, refusal_by, refusal_behind, refusal_in, number_for, cause_by, cause_behind, port_fits, played_by, played_at}

-- the number of a refusal is that of the answer, and of what a trace has at an offset
number_in_answer : (answer : Answer) → number_for (refusal_in answer) ≡ refusal_of answer
number_in_answer (Refused refusal) = refl
number_in_answer Quiet = refl
number_in_answer (Sent n) = refl
number_in_answer (Unicast n) = refl
number_in_answer (Both n u) = refl

pub number_behind : (s : State) (o : Occurrence) → number_for (cause_behind s o) ≡ refusal_behind s o
number_behind s o = go (call_of o)
  where
    go : (c : Option Call) → number_for (cause_by s c) ≡ refusal_by s c
    go None = refl
    go (Some c) = number_in_answer (answer_to s c)

-- an event that can be written
pub fits-port : (v : Event) (bytes : List ℕ) → can_be_written (occurrence v bytes) ≡ true → port_fits v ≡ true
fits-port (event.Tick time) bytes e = refl
fits-port (event.Packet time from p draw hold) bytes e =
    let known = sized (size_for (event.Packet time from p draw hold) (length bytes)) (both (is_wide (packet time from p draw hold bytes)) _ e).1 in
    let inner = number_fits hold (packet_size (source_size from hold) p draw (length bytes)) known.0 known.1 in
    le-leb p 65535 (packet_fits (source_size from hold) p draw (length bytes) known.0 inner.1).0.port-fits
fits-port (event.Claim last k state) bytes e = refl
fits-port (event.Stop time) bytes e = refl
fits-port (event.Port time p) bytes e =
    let known = sized (size_for (event.Port time p) 0) (both (is_wide (port time p)) _ e).1 in
    le-leb p 65535 (number_fits p (Ok 11) known.0 known.1).0
fits-port (event.Txt time) bytes e = refl

-- bytes that were laid over a buffer with room for them
roomy : (bytes : List ℕ) → length bytes ≤ 65535 → take (length bytes) (drop 0 (sets (replicate 65535 0) 0 bytes)) ≡ bytes
roomy bytes h = ap (take (length bytes)) (filled 65535 bytes h) ∙ take_at bytes (replicate (65535 - length bytes) 0) (length bytes) refl

pub same_bytes_lem : (v : Event) (bytes : List ℕ) → can_be_written (occurrence v bytes) ≡ true → (n : ℕ) → n ≡ length bytes → (out : List ℕ)
    → out ≡ sets (replicate 65535 0) 0 bytes → occurrence v (take n (drop 0 out)) ≡ occurrence v bytes
same_bytes_lem (event.Tick time) bytes e n en out eo = refl
same_bytes_lem (event.Packet time from p draw hold) bytes e n en out eo =
    let known = sized (size_for (event.Packet time from p draw hold) (length bytes)) (both (is_wide (packet time from p draw hold bytes)) _ e).1 in
    let inner = number_fits hold (packet_size (source_size from hold) p draw (length bytes)) known.0 known.1 in
    let small = (packet_fits (source_size from hold) p draw (length bytes) known.0 inner.1).0.len_fits in
    ap (packet time from p draw hold) (ap (λ (l : List ℕ). take n (drop 0 l)) eo ∙ ap (λ (k : ℕ). take k (drop 0 (sets (replicate 65535 0) 0 bytes))) en ∙ roomy bytes small)
same_bytes_lem (event.Claim last k state) bytes e n en out eo = refl
same_bytes_lem (event.Stop time) bytes e n en out eo = refl
same_bytes_lem (event.Port time p) bytes e n en out eo = refl
same_bytes_lem (event.Txt time) bytes e n en out eo =
    let known = sized (size_for (event.Txt time) (length bytes)) (both (is_wide (txt time bytes)) _ e).1 in
    let small = (number_fits (length bytes) _ known.0 known.1).0 in
    ap (txt time) (ap (λ (l : List ℕ). take n (drop 0 l)) eo ∙ ap (λ (k : ℕ). take k (drop 0 (sets (replicate 65535 0) 0 bytes))) en ∙ roomy bytes small)

-- what stands at an offset
module _ (p : List ℕ) (at : ℕ) (s : Step) (es : s ≡ step_at p at) where
  pub data_found : (e : Entry) → s ≡ Ok (Some e) → data_at p at ≡ data_in p e
  data_found e q = ap (data_of p) (sym es ∙ q)

  pub found_fits : Bytes p → (e : Entry) → s ≡ Ok (Some e) → can_be_written (occurrence e.event (data_at p at)) ≡ true
  found_fits b e q = ap (λ (l : List ℕ). can_be_written (occurrence e.event l)) (data_found e q) ∙ (wrote p b at e (sym es ∙ q)).fits

  pub played_of : (state : State) (q : Step) → s ≡ q → played_by p state q ≡ played_at p at state
  unfolding played_at
  played_of state q eq = ap (played_by p state) (sym eq ∙ es)
