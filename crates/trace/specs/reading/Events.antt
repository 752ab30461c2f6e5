-- The events of a trace, with the bytes that they bring, and the offset of its refusal. Assumes nothing: these are definitions.
use Rattle.std.specs.Prelude.{ℕ, zero, suc, ◌+◌, ◌-◌, List, [], ◌∷◌, ◌++◌, cond, length, take, drop, ltb, Option, Some, None, Result, Ok, Err}
use Rattle.claims.specs.declared.holds.Address.{Address}
use Rattle.trace.specs.reading.Reading.{Step, pieces_of, refused, step_at}
use Rattle.trace.specs.declared.reading.Event.{Event}
use Rattle.trace.specs.declared.reading.Event.TheVariants as event
use Rattle.trace.specs.declared.reading.Entry.{Entry}
use Rattle.trace.specs.declared.reading.Refused.{Refused}

-- what happened, with the bytes of a packet or of TXT: the calls on a responder, and what was recorded of a claim
pub data Occurrence : Type 0 where
  tick : ℕ → Occurrence
  packet : ℕ → Address → ℕ → ℕ → ℕ → List ℕ → Occurrence
  claim : ℕ → ℕ → ℕ → Occurrence
  stop : ℕ → Occurrence
  port : ℕ → ℕ → Occurrence
  txt : ℕ → List ℕ → Occurrence

-- an event with its bytes
abbrev pub occurrence : Event → List ℕ → Occurrence
occurrence (event.Tick time) bytes = tick time
occurrence (event.Packet time from p draw hold) bytes = packet time from p draw hold bytes
occurrence (event.Claim last k state) bytes = claim last k state
occurrence (event.Stop time) bytes = stop time
occurrence (event.Port time p) bytes = port time p
occurrence (event.Txt time) bytes = txt time bytes

-- how many bytes the next piece carries, of those that are left
abbrev pub in_piece : ℕ → ℕ
in_piece left = cond (ltb left 16) left 16

-- the bytes that so many pieces from `at` on carry, `left` of them
unfoldable pub data_from : ℕ → List ℕ → ℕ → ℕ → List ℕ
data_from zero p at left = []
data_from (suc k) p at left = take (in_piece left) (drop (at + 1) p) ++ data_from k p (at + 17) (left - 16)

abbrev pub data_in : List ℕ → Entry → List ℕ
data_in p e = data_from (pieces_of e.len) p e.first e.len

-- the bytes that the event at an offset brings
abbrev pub data_of : List ℕ → Step → List ℕ
data_of p (Ok None) = []
data_of p (Ok (Some e)) = data_in p e
data_of p (Err r) = []

abbrev pub data_at : List ℕ → ℕ → List ℕ
data_at p at = data_of p (step_at p at)

-- what reading gives: the events before the refusal, all of them where there is none, and its offset
pub record Reading : Type 0 where
  pub events : List Occurrence
  pub fault : Option ℕ

abbrev pub within : List ℕ → (ℕ → Reading) → Step → Reading
within p rest (Ok None) = record { events = []; fault = None }
within p rest (Ok (Some e)) = record { events = occurrence e.event (data_in p e) ∷ (rest e.next).events; fault = (rest e.next).fault }
within p rest (Err r) = record { events = []; fault = Some r.at }

-- at most so many events from an offset on
unfoldable pub at_most : ℕ → List ℕ → ℕ → Reading
at_most zero p at = record { events = []; fault = None }
at_most (suc n) p at = within p (at_most n p) (step_at p at)

-- from an offset on: each event takes a byte at least, so that what is left of the trace is more than enough
unfoldable pub read_from : List ℕ → ℕ → Reading
read_from p at = at_most (suc (length p - at)) p at

abbrev pub reading_of : List ℕ → Reading
reading_of p = read_from p 0

abbrev pub checked_of : Option ℕ → Result (Unit {0}) Refused
checked_of None = Ok tt
checked_of (Some offset) = refused offset

abbrev pub check_of : List ℕ → Result (Unit {0}) Refused
check_of p = checked_of (reading_of p).fault
