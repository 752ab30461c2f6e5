-- The reader's and the writer's answers in numbers, for callers in other languages, and events by their numbers. Assumes nothing: these are definitions.
use Rattle.std.specs.Prelude.{ℕ, List, cond, eqb, Option, Some, None, Result, Ok, Err}
use Rattle.trace.specs.reading.Reading.{Step}
use Rattle.trace.specs.writing.Writing.{written_to, out_after}
use Rattle.trace.specs.declared.reading.Event.{Event}
use Rattle.trace.specs.declared.reading.Event.TheVariants as event
use Rattle.trace.specs.declared.reading.Refused.{Refused}
use Rattle.trace.specs.declared.writing.Unwritten.{Unwritten}
use Rattle.trace.specs.declared.writing.Unwritten.TheVariants as unwritten
use Rattle.capi_trace.specs.declared.TraceEvent.{TraceEvent}
use Rattle.capi_trace.specs.declared.TraceAnswer.{TraceAnswer}

-- all numbers of an event
abbrev pub numbers : ℕ → ℕ → ℕ → ℕ → ℕ → ℕ → ℕ → ℕ → ℕ → ℕ → ℕ → ℕ → TraceEvent
numbers refusal kind at time high low port draw hold claim state length = record {
  refusal = refusal;
  kind = kind;
  at = at;
  time = time;
  high = high;
  low = low;
  port = port;
  draw = draw;
  hold = hold;
  claim = claim;
  state = state;
  length = length;
}

-- an event, with the offset behind it and how many bytes it brings
abbrev pub event_of : Event → ℕ → ℕ → TraceEvent
event_of (event.Tick time) at len = numbers 0 1 at time 0 0 0 0 0 0 0 len
event_of (event.Packet time from port draw hold) at len = numbers 0 2 at time from.high from.low port draw hold 0 0 len
event_of (event.Claim last claim state) at len = numbers 0 4 at last 0 0 0 0 0 claim state len
event_of (event.Stop time) at len = numbers 0 6 at time 0 0 0 0 0 0 0 len
event_of (event.Port time port) at len = numbers 0 7 at time 0 0 port 0 0 0 0 len
event_of (event.Txt time) at len = numbers 0 8 at time 0 0 0 0 0 0 0 len

-- the trace's end, or its refusal
abbrev pub no_event : ℕ → ℕ → TraceEvent
no_event refusal at = numbers refusal 0 at 0 0 0 0 0 0 0 0 0

-- what stands at an offset
abbrev pub step_of : ℕ → Step → TraceEvent
step_of at (Ok (Some e)) = event_of e.event e.next e.len
step_of at (Ok None) = no_event 0 at
step_of at (Err r) = no_event 12 r.at

abbrev pub checked_of : Result (Unit {0}) Refused → ℕ → TraceAnswer
checked_of (Ok done) len = record { refusal = 0; at = len }
checked_of (Err r) len = record { refusal = 12; at = r.at }

-- the event of a kind with its numbers
abbrev pub told_by : ℕ → ℕ → ℕ → ℕ → ℕ → ℕ → ℕ → ℕ → ℕ → Option Event
told_by kind time high low port draw hold claim state =
    cond (eqb kind 1) (Some (event.Tick time))
    (cond (eqb kind 2) (Some (event.Packet time (record { high = high; low = low }) port draw hold))
    (cond (eqb kind 4) (Some (event.Claim time claim state))
    (cond (eqb kind 6) (Some (event.Stop time))
    (cond (eqb kind 7) (Some (event.Port time port)) (cond (eqb kind 8) (Some (event.Txt time)) None)))))

abbrev pub written_of : Result ℕ Unwritten → TraceAnswer
written_of (Ok next) = record { refusal = 0; at = next }
written_of (Err (unwritten.Unfit offset)) = record { refusal = 12; at = offset }
written_of (Err unwritten.NoRoom) = record { refusal = 3; at = 0 }

-- the writer's answer, and the buffer then; a kind that there is not is refused where it would stand
abbrev pub written_by : List ℕ → ℕ → Option Event → List ℕ → TraceAnswer
written_by out at (Some e) bytes = written_of (written_to out at e bytes)
written_by out at None bytes = record { refusal = 12; at = at }

abbrev pub out_by : List ℕ → ℕ → Option Event → List ℕ → List ℕ
out_by out at (Some e) bytes = out_after out at e bytes
out_by out at None bytes = out
