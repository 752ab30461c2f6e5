-- How many bytes an event takes, and which of its records a value does not fit. Assumes nothing: these are definitions.
use Rattle.std.specs.Prelude.{ℕ, ◌+◌, ◌*◌, List, [], ◌∷◌, Bool, true, false, cond, ◌&&◌, length, ltb, leb, Result, Ok, Err}
use Rattle.claims.specs.declared.holds.Address.{Address}
use Rattle.trace.specs.reading.Reading.{is_usual, pieces_of}
use Rattle.trace.specs.reading.Events.{Occurrence, tick, packet, claim, stop, port, txt}
use Rattle.trace.specs.declared.reading.Event.{Event}
use Rattle.trace.specs.declared.reading.Event.TheVariants as event
use Rattle.trace.specs.declared.writing.Unfit.{Unfit}

-- the record that a value does not fit, so far behind the event's start
abbrev pub unfit : ℕ → Result ℕ Unfit
unfit behind = Err (record { behind = behind })

abbrev pub fits16 : ℕ → Bool
fits16 n = leb n 65535

abbrev pub fits8 : ℕ → Bool
fits8 n = leb n 255

abbrev pub source_size : Address → ℕ → ℕ
source_size from hold = cond (is_usual from hold) 0 19

-- "so is, in the writer, a value its field can't hold, at its record's offset": that of a packet lies behind that of its source
abbrev pub packet_size : ℕ → ℕ → ℕ → ℕ → Result ℕ Unfit
packet_size source p draw len =
    cond (fits16 p && (fits8 draw && fits16 len)) (Ok (source + 14 + pieces_of len * 17)) (unfit source)

abbrev pub claim_size : ℕ → ℕ → Result ℕ Unfit
claim_size k state = cond (leb k 1 && leb state 4) (Ok 11) (unfit 0)

-- the size of an event that brings `len` bytes
abbrev pub size_for : Event → ℕ → Result ℕ Unfit
size_for (event.Tick time) len = Ok 9
size_for (event.Packet time from p draw hold) len = cond (fits16 hold) (packet_size (source_size from hold) p draw len) (unfit 0)
size_for (event.Claim last k state) len = claim_size k state
size_for (event.Stop time) len = Ok 9
size_for (event.Port time p) len = cond (fits16 p) (Ok 11) (unfit 0)
size_for (event.Txt time) len = cond (fits16 len) (Ok (11 + pieces_of len * 17)) (unfit 0)

-- ---- events that can be written

-- an event by itself, and the bytes that it brings
abbrev pub event_of : Occurrence → Event
event_of (tick time) = event.Tick time
event_of (packet time from p draw hold bytes) = event.Packet time from p draw hold
event_of (claim last k state) = event.Claim last k state
event_of (stop time) = event.Stop time
event_of (port time p) = event.Port time p
event_of (txt time bytes) = event.Txt time

abbrev pub brought_by : Occurrence → List ℕ
brought_by (tick time) = []
brought_by (packet time from p draw hold bytes) = bytes
brought_by (claim last k state) = []
brought_by (stop time) = []
brought_by (port time p) = []
brought_by (txt time bytes) = bytes

-- times and halves of addresses are numbers of 64 bits, as all are that are handed to the writer
abbrev pub fits64 : ℕ → Bool
fits64 n = ltb n 18446744073709551616

abbrev pub is_wide : Occurrence → Bool
is_wide (tick time) = fits64 time
is_wide (packet time from p draw hold bytes) = fits64 time && (fits64 from.high && fits64 from.low)
is_wide (claim last k state) = fits64 last
is_wide (stop time) = fits64 time
is_wide (port time p) = fits64 time
is_wide (txt time bytes) = fits64 time

abbrev pub is_size : Result ℕ Unfit → Bool
is_size (Ok n) = true
is_size (Err u) = false

-- each value fits its field
abbrev pub can_be_written : Occurrence → Bool
can_be_written o = is_wide o && is_size (size_for (event_of o) (length (brought_by o)))

unfoldable pub all_can_be_written : List Occurrence → Bool
all_can_be_written [] = true
all_can_be_written (o ∷ os) = can_be_written o && all_can_be_written os
