-- Theorems: playing a trace turn by turn shows the lines of its events; and the state that a line is compared with is that of the responder's run over the calls
-- of the events before it, refused ones passed. Assumes nothing.
use mathlib.Core.Path.{◌≡◌, refl, sym, ap, ◌∙◌}
use mathlib.Core.List.{List, [], ◌∷◌, ◌++◌}
use Prim.Native.Nat.{ℕ, zero, suc, ◌-◌, ◌<◌}
use native.Mathlib.Omega.{arith}
use lib.ListN.{length}
use Rattle.std.specs.Prelude.{Option, Some, None, Ok, Err}
use Rattle.responder.specs.Runs.{Call, run}
use Rattle.responder.specs.declared.State.{State}
use Rattle.trace.specs.reading.Reading.{Step, step_at}
use Rattle.trace.specs.reading.Events.{Occurrence, tick, packet, claim, stop, port, txt, occurrence, data_in, Reading, within, read_from, reading_of}
use Rattle.trace.specs.declared.reading.Event.{Event}
use Rattle.trace.specs.declared.reading.Event.TheVariants as event
use Rattle.trace.proofs.reading.Placed.{placed}
use Rattle.trace.proofs.reading.Unrolled.{unroll}
use Rattle.playing.specs.Playing.{call_of, state_by, state_behind, turn_of, played_by, played_at}
use Rattle.playing.specs.Lines.{with_call, calls_of, line_of, with_line, lines_of, on_by, played_lines}
use Rattle.playing.specs.declared.Line.{Line}

-- ---- the states

-- a run over the calls of one event, and of those behind it
run_by : (s : State) (c : Option Call) (cs : List Call) → run s (with_call c cs) ≡ run (state_by s c) cs
run_by s None cs = refl
run_by s (Some c) cs = refl

-- the theorem: the line of what is recorded of a claim is compared with the state of the run over the calls before it
pub line_state : (os : List Occurrence) (s : State) (last k number : ℕ) (rest : List Occurrence)
    → lines_of s (os ++ (claim last k number ∷ rest))
    ≡ lines_of s os ++ (line_of (run s (calls_of os)) last k number ∷ lines_of (run s (calls_of os)) rest)
unfolding lines_of calls_of
line_state [] s last k number rest = refl
line_state (o ∷ os) s last k number rest =
    ap (with_line s o) (line_state os (state_behind s o) last k number rest)
    ∙ ap (λ (t : State). with_line s o (lines_of (state_behind s o) os ++ (line_of t last k number ∷ lines_of t rest))) (sym (run_by s (call_of o) (calls_of os)))
    ∙ front s o _ _
  where
    front : (t : State) (x : Occurrence) (a b : List Line) → with_line t x (a ++ b) ≡ with_line t x a ++ b
    front t (tick time) a b = refl
    front t (packet time from p draw hold bytes) a b = refl
    front t (claim l j n) a b = refl
    front t (stop time) a b = refl
    front t (port time p) a b = refl
    front t (txt time bytes) a b = refl

-- ---- the turns

-- a turn on an event shows its line, and goes on behind it
turned : (s : State) (v : Event) (bytes : List ℕ) (next : ℕ) (rest : ℕ → List Line)
    → on_by rest (turn_of s v next) ≡ with_line s (occurrence v bytes) (rest next)
turned s (event.Tick time) bytes next rest = refl
turned s (event.Packet time from p draw hold) bytes next rest = refl
turned s (event.Claim last k number) bytes next rest = refl
turned s (event.Stop time) bytes next rest = refl
turned s (event.Port time p) bytes next rest = refl
turned s (event.Txt time) bytes next rest = refl

module _ (p : List ℕ) where
  from-lines : (n at : ℕ) (s : State) → length p - at < n → played_lines n p at s ≡ lines_of s (read_from p at).events
  unfolding played_lines lines_of played_at
  from-lines zero at s h = absurd (omega arith)
  from-lines (suc n) at s h =
      go (step_at p at) refl (λ to t a. from-lines n to t a) ∙ ap (λ (x : Reading). lines_of s x.events) (sym (unroll p at))
    where
      go : (x : Step) → step_at p at ≡ x → ((to : ℕ) (t : State) → length p - to < n → played_lines n p to t ≡ lines_of t (read_from p to).events)
          → on_by (λ (next : ℕ). played_lines n p next (played_by p s (step_at p at)).state) (played_by p s (step_at p at)).turn
          ≡ lines_of s (within p (read_from p) x).events
      go (Ok None) ex rest = ap (λ (y : Step). on_by (λ (next : ℕ). played_lines n p next (played_by p s y).state) (played_by p s y).turn) ex
      go (Ok (Some e)) ex rest =
          let o = occurrence e.event (data_in p e) in
          let place = placed p at e ex in
          ap (λ (y : Step). on_by (λ (next : ℕ). played_lines n p next (played_by p s y).state) (played_by p s y).turn) ex
          ∙ turned s e.event (data_in p e) e.next (λ (next : ℕ). played_lines n p next (state_behind s o))
          ∙ ap (with_line s o) (rest e.next (state_behind s o) (omega arith))
      go (Err r) ex rest = ap (λ (y : Step). on_by (λ (next : ℕ). played_lines n p next (played_by p s y).state) (played_by p s y).turn) ex

  -- the theorem: the lines of playing a trace are those of its events
  pub lines_of-trace : (s : State) → played_lines (suc (length p)) p 0 s ≡ lines_of s (reading_of p).events
  lines_of-trace s = from-lines (suc (length p)) 0 s (omega arith)
