-- The lines that playing a trace shows, and the states that they are compared with: those of the responder's run over the calls before (specification, 'Traces').
-- Assumes nothing: these are definitions.
use Rattle.std.specs.Prelude.{ℕ, zero, suc, List, [], ◌∷◌, Option, Some, None}
use Rattle.responder.specs.Runs.{Call}
use Rattle.responder.specs.declared.State.{State}
use Rattle.trace.specs.reading.Events.{Occurrence, tick, packet, claim, stop, port, txt}
use Rattle.playing.specs.Playing.{call_of, state_behind, agrees_with, played_at}
use Rattle.playing.specs.declared.Line.{Line}
use Rattle.playing.specs.declared.Turn.{Turn}
use Rattle.playing.specs.declared.Turn.TheVariants as turn

-- the calls that a list of events records
abbrev pub with_call : Option Call → List Call → List Call
with_call None cs = cs
with_call (Some c) cs = c ∷ cs

unfoldable pub calls_of : List Occurrence → List Call
calls_of [] = []
calls_of (o ∷ os) = with_call (call_of o) (calls_of os)

-- the line for what is recorded of a claim, compared with a state
abbrev pub line_of : State → ℕ → ℕ → ℕ → Line
line_of s last k number = record { last = last; claim = k; state = number; agrees = agrees_with s last k number }

-- "For each kind 4 the player prints one line of what it records .. and nothing else"
abbrev pub with_line : State → Occurrence → List Line → List Line
with_line s (claim last k number) ls = line_of s last k number ∷ ls
with_line s (tick time) ls = ls
with_line s (packet time from p draw hold bytes) ls = ls
with_line s (stop time) ls = ls
with_line s (port time p) ls = ls
with_line s (txt time bytes) ls = ls

unfoldable pub lines_of : State → List Occurrence → List Line
lines_of s [] = []
lines_of s (o ∷ os) = with_line s o (lines_of (state_behind s o) os)

-- the lines of playing turn by turn, from an offset on, at most so many turns
abbrev pub on_by : (ℕ → List Line) → Turn → List Line
on_by rest turn.End = []
on_by rest (turn.Refused offset) = []
on_by rest (turn.Called next) = rest next
on_by rest (turn.Shown line next) = line ∷ rest next

unfoldable pub played_lines : ℕ → List ℕ → ℕ → State → List Line
played_lines zero p at s = []
played_lines (suc n) p at s = on_by (λ next. played_lines n p next (played_at p at s).state) (played_at p at s).turn
