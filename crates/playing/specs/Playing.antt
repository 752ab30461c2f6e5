-- Playing a trace (specification, 'Traces': "a player that is handed the setup, start time and start draw apart, runs the trace, on past refused calls, and checks
-- each kind 4 against the responder"). Assumes nothing: these are definitions.
use Rattle.std.specs.Prelude.{ℕ, List, Bool, true, cond, ◌&&◌, eqb, leb, Option, Some, None, Ok, Err}
use Rattle.wire.specs.refusals.Numbers.{number_of}
use Rattle.wire.specs.declared.refusals.Refusal.{Refusal}
use Rattle.own.specs.changes.Changes.{NewData, new_port, new_txt}
use Rattle.claims.specs.Claims.{state_number}
use Rattle.claims.specs.declared.holds.Address.{Address}
use Rattle.responder.specs.Handed.{Arrival, Tick}
use Rattle.responder.specs.changes.Changes.{Update}
use Rattle.responder.specs.Calls.{refusal_of}
use Rattle.responder.specs.Runs.{Call, received, ticked, stopped, updated, answer_to, state_after}
use Rattle.responder.specs.declared.Answer.{Answer}
use Rattle.responder.specs.declared.Answer.TheVariants.{Refused, Quiet, Sent, Unicast, Both}
use Rattle.responder.specs.declared.State.{State}
use Rattle.trace.specs.reading.Reading.{Step, step_at}
use Rattle.trace.specs.reading.Events.{Occurrence, tick, packet, claim, stop, port, txt, occurrence, data_in}
use Rattle.trace.specs.declared.reading.Event.{Event}
use Rattle.trace.specs.declared.reading.Event.TheVariants as event
use Rattle.playing.specs.declared.Turn.{Turn}
use Rattle.playing.specs.declared.Turn.TheVariants as turn
use Rattle.playing.specs.declared.Made.{Made}
use Rattle.playing.specs.declared.Played.{Played}

-- ---- the calls

-- "Every call is made with buffers of 1,452 bytes."
abbrev pub room : ℕ
room = 1452

abbrev pub tick_of : ℕ → Tick
tick_of time = record { time = time; room = room }

abbrev pub arrival_of : ℕ → Address → ℕ → ℕ → ℕ → List ℕ → Arrival
arrival_of time from p draw hold bytes = record {
  time = time;
  from = from;
  port = p;
  draw = draw;
  hold = hold;
  packet = bytes;
  room = room;
  unicastroom = room;
}

abbrev pub update_of : ℕ → NewData → Update
update_of time new = record { time = time; room = room; new = new }

-- the call that an event records; what is recorded of a claim is none
abbrev pub call_of : Occurrence → Option Call
call_of (tick time) = Some (ticked (tick_of time))
call_of (packet time from p draw hold bytes) = Some (received (arrival_of time from p draw hold bytes))
call_of (claim last k state) = None
call_of (stop time) = Some (stopped (tick_of time))
call_of (port time p) = Some (updated (update_of time (new_port p)))
call_of (txt time bytes) = Some (updated (update_of time (new_txt bytes)))

abbrev pub state_by : State → Option Call → State
state_by s None = s
state_by s (Some c) = state_after s c

-- the state behind an event; a refused call leaves it
abbrev pub state_behind : State → Occurrence → State
state_behind s o = state_by s (call_of o)

-- the refusal number of its call, 0 where it is taken or none is made
abbrev pub refusal_by : State → Option Call → ℕ
refusal_by s None = 0
refusal_by s (Some c) = refusal_of (answer_to s c)

abbrev pub refusal_behind : State → Occurrence → ℕ
refusal_behind s o = refusal_by s (call_of o)

-- the refusal that an answer is, if it is one, and its number, 0 for none
abbrev pub refusal_in : Answer → Option Refusal
refusal_in (Refused refusal) = Some refusal
refusal_in Quiet = None
refusal_in (Sent n) = None
refusal_in (Unicast n) = None
refusal_in (Both n u) = None

abbrev pub number_for : Option Refusal → ℕ
number_for None = 0
number_for (Some refusal) = number_of refusal

-- the refusal of its call, none where it is taken or none is made
abbrev pub cause_by : State → Option Call → Option Refusal
cause_by s None = None
cause_by s (Some c) = refusal_in (answer_to s c)

abbrev pub cause_behind : State → Occurrence → Option Refusal
cause_behind s o = cause_by s (call_of o)

-- both of a call, and of an event
abbrev pub made_with : Answer → State → Made
made_with answer s = record { refusal = refusal_in answer; state = s }

abbrev pub made_by : State → Call → Made
made_by s c = made_with (answer_to s c) (state_after s c)

abbrev pub made_behind : State → Occurrence → Made
made_behind s o = record { refusal = cause_behind s o; state = state_behind s o }

-- ---- what is compared

-- "1 of claim (0 instance, 1 host), 1 of state (0 waiting, 1 probing, 2 deferred, 3 held, 4 lost)"
abbrev pub number_in : State → ℕ → ℕ
number_in s k = cond (eqb k 0) (state_number s.progress.instance) (state_number s.progress.host)

-- ""bad" in place of "ok" where state or time differs"
abbrev pub agrees_with : State → ℕ → ℕ → ℕ → Bool
agrees_with s last k number = eqb s.progress.last last && eqb (number_in s k) number

-- ---- playing

abbrev pub turn_of : State → Event → ℕ → Turn
turn_of s (event.Claim last k number) next = turn.Shown (record { last = last; claim = k; state = number; agrees = agrees_with s last k number }) next
turn_of s (event.Tick time) next = turn.Called next
turn_of s (event.Packet time from p draw hold) next = turn.Called next
turn_of s (event.Stop time) next = turn.Called next
turn_of s (event.Port time p) next = turn.Called next
turn_of s (event.Txt time) next = turn.Called next

abbrev pub played_by : List ℕ → State → Step → Played
played_by p s (Ok None) = record { turn = turn.End; refusal = None; state = s }
played_by p s (Ok (Some e)) = record {
  turn = turn_of s e.event e.next;
  refusal = cause_behind s (occurrence e.event (data_in p e));
  state = state_behind s (occurrence e.event (data_in p e));
}
played_by p s (Err r) = record { turn = turn.Refused r.at; refusal = None; state = s }

-- the event at an offset, played to a responder
unfoldable pub played_at : List ℕ → ℕ → State → Played
played_at p at s = played_by p s (step_at p at)

-- a port in an event that was read is one of 16 bits
abbrev pub port_fits : Event → Bool
port_fits (event.Packet time from p draw hold) = leb p 65535
port_fits (event.Port time p) = leb p 65535
port_fits (event.Tick time) = true
port_fits (event.Claim last k number) = true
port_fits (event.Stop time) = true
port_fits (event.Txt time) = true
