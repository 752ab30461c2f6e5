-- Examples of traces, evaluated: the one of docs/TRACE.md, its events, and refusals with their offsets. They are witnesses of the theorems' premises too.
-- Assumes nothing.
use mathlib.Core.Path.{◌≡◌, refl, sym, ap, ◌∙◌}
use mathlib.Core.List.{List, [], ◌∷◌, ◌++◌}
use mathlib.Core.Bool.{Bool, true, ◌&&◌}
use Prim.Native.Nat.{ℕ, zero, suc}
use native.Mathlib.Omega.{arith}
use borrow.Author.Tests.{ltb-true}
use lib.ListN.{length, take, drop, set}
use lib.Dec.{ltb}
use Rattle.std.specs.Prelude.{Option, Some, None}
use Rattle.claims.specs.declared.holds.Address.{Address}
use Rattle.trace.specs.records.Numbers.{bytes64}
use Rattle.trace.specs.records.Records.{record_at}
use Rattle.trace.specs.reading.Reading.{all_zero, no_source, usual_hold, is_piece, pieces_at, with_data, step_at}
use Rattle.trace.specs.reading.Events.{Occurrence, tick, packet, claim, stop, port, txt, data_from, Reading, at_most, read_from, reading_of}
use Rattle.trace.specs.writing.Bytes.{pieces_over, trace_of}
use Rattle.trace.specs.writing.Sizes.{all_can_be_written}
use Rattle.trace.proofs.Numbers.{Bytes}
use Rattle.trace.proofs.ReadBack.{both, read_back}
use Rattle.trace.proofs.Written.{read_is_written, one-trace}
use Rattle.trace.proofs.First.{Stopped, all-stand, first-fault}
use Rattle.trace.proofs.Torn.{Torn, torn_trace}
use Rattle.trace.specs.reading.Order.{nothing, Goes}

-- a message with no question, and one that asks for "local"
unfoldable pub silent : List ℕ
silent = 0 ∷ 0 ∷ 0 ∷ 0 ∷ 0 ∷ 0 ∷ 0 ∷ 0 ∷ 0 ∷ 0 ∷ 0 ∷ 0 ∷ []

unfoldable pub asking : List ℕ
asking = 0 ∷ 0 ∷ 0 ∷ 0 ∷ 0 ∷ 1 ∷ 0 ∷ 0 ∷ 0 ∷ 0 ∷ 0 ∷ 0 ∷ 5 ∷ 108 ∷ 111 ∷ 99 ∷ 97 ∷ 108 ∷ 0 ∷ 0 ∷ 1 ∷ 0 ∷ 1 ∷ []

abbrev sender : Address
sender = record { high = 0; low = 281473902969351 }

-- a tick, the host's claim held, a packet, one with its source, updates of the port and of TXT, and a stop
unfoldable pub events : List Occurrence
events =
    tick 5000
    ∷ claim 5000 1 3
    ∷ packet 5100 no_source 5353 20 usual_hold silent
    ∷ packet 5200 sender 5353 20 450 asking
    ∷ port 6000 8080
    ∷ txt 13000 (5 ∷ 97 ∷ 61 ∷ 49 ∷ 50 ∷ 51 ∷ [])
    ∷ stop 20000
    ∷ []

unfoldable pub bytes : List ℕ
bytes =
    1 ∷ 0 ∷ 0 ∷ 0 ∷ 0 ∷ 0 ∷ 0 ∷ 19 ∷ 136 ∷ 4 ∷ 0 ∷ 0 ∷ 0 ∷ 0 ∷ 0 ∷ 0 ∷ 19 ∷ 136 ∷ 1 ∷ 3 ∷ 2 ∷ 0 ∷ 0 ∷ 0 ∷ 0 ∷ 0 ∷ 0 ∷ 19 ∷ 236 ∷ 20 ∷ 233 ∷ 20 ∷
    0 ∷ 12 ∷ 3 ∷ 0 ∷ 0 ∷ 0 ∷ 0 ∷ 0 ∷ 0 ∷ 0 ∷ 0 ∷ 0 ∷ 0 ∷ 0 ∷ 0 ∷ 0 ∷ 0 ∷ 0 ∷ 0 ∷ 5 ∷ 0 ∷ 0 ∷ 0 ∷ 0 ∷ 0 ∷ 0 ∷ 0 ∷ 0 ∷ 0 ∷ 0 ∷ 255 ∷ 255 ∷ 192 ∷ 0
    ∷ 2 ∷ 7 ∷ 1 ∷ 194 ∷ 2 ∷ 0 ∷ 0 ∷ 0 ∷ 0 ∷ 0 ∷ 0 ∷ 20 ∷ 80 ∷ 20 ∷ 233 ∷ 20 ∷ 0 ∷ 23 ∷ 3 ∷ 0 ∷ 0 ∷ 0 ∷ 0 ∷ 0 ∷ 1 ∷ 0 ∷ 0 ∷ 0 ∷ 0 ∷ 0 ∷ 0 ∷ 5 ∷
    108 ∷ 111 ∷ 99 ∷ 3 ∷ 97 ∷ 108 ∷ 0 ∷ 0 ∷ 1 ∷ 0 ∷ 1 ∷ 0 ∷ 0 ∷ 0 ∷ 0 ∷ 0 ∷ 0 ∷ 0 ∷ 0 ∷ 0 ∷ 7 ∷ 0 ∷ 0 ∷ 0 ∷ 0 ∷ 0 ∷ 0 ∷ 23 ∷ 112 ∷ 31 ∷ 144 ∷ 8
    ∷ 0 ∷ 0 ∷ 0 ∷ 0 ∷ 0 ∷ 0 ∷ 50 ∷ 200 ∷ 0 ∷ 6 ∷ 3 ∷ 5 ∷ 97 ∷ 61 ∷ 49 ∷ 50 ∷ 51 ∷ 0 ∷ 0 ∷ 0 ∷ 0 ∷ 0 ∷ 0 ∷ 0 ∷ 0 ∷ 0 ∷ 0 ∷ 6 ∷ 0 ∷ 0 ∷ 0 ∷ 0 ∷ 0
    ∷ 0 ∷ 78 ∷ 32 ∷ []

writable : all_can_be_written events ≡ true
unfolding all_can_be_written events silent asking
writable = refl

pub written : trace_of events ≡ bytes
unfolding trace_of pieces_over bytes64 events silent asking bytes
written = refl

pub is_read_lem : reading_of bytes ≡ record { events = events; fault = None }
is_read_lem = ap reading_of (sym written) ∙ read_back events writable

-- the same by evaluation alone, from the bytes
evaluated : reading_of bytes ≡ record { events = events; fault = None }
unfolding read_from at_most step_at with_data pieces_at is_piece record_at all_zero data_from events silent asking bytes
evaluated = refl

-- all are bytes, by a test
are_bytes : List ℕ → Bool
are_bytes [] = true
are_bytes (b ∷ bs) = ltb b 256 && are_bytes bs

all-bytes : (p : List ℕ) → are_bytes p ≡ true → Bytes p
unfolding are_bytes
all-bytes [] e zero = omega arith
all-bytes [] e (suc i) = omega arith
all-bytes (b ∷ bs) e zero = ltb-true b 256 (both (ltb b 256) (are_bytes bs) e).0
all-bytes (b ∷ bs) e (suc i) = all-bytes bs (both (ltb b 256) (are_bytes bs) e).1 i

pub bytes_are : Bytes bytes
unfolding are_bytes bytes
bytes_are = all-bytes bytes refl

no_fault : (reading_of bytes).fault ≡ None
no_fault = ap (λ (x : Reading). x.fault) is_read_lem

-- the theorems on it
the_writers : bytes ≡ trace_of (reading_of bytes).events
the_writers = (read_is_written bytes bytes_are no_fault).0

the_only_one : bytes ≡ bytes
the_only_one = one-trace bytes bytes bytes_are bytes_are no_fault no_fault refl

all_of-it : Goes bytes nothing 0 nothing (length bytes)
all_of-it = all-stand bytes no_fault

-- refusals: the trace without its last byte; with an unknown kind, a claim out of range, padding that is not zero, and no source where one would be usual
fault : List ℕ → Option ℕ
fault p = (reading_of p).fault

cut_short : fault (take 165 bytes) ≡ Some 157
unfolding fault read_from at_most step_at with_data pieces_at is_piece record_at all_zero bytes
cut_short = refl

unknown_kind : fault (set bytes 9 9) ≡ Some 9
unfolding fault read_from at_most step_at with_data pieces_at is_piece record_at all_zero bytes
unknown_kind = refl

no_such_claim : fault (set bytes 18 2) ≡ Some 9
unfolding fault read_from at_most step_at with_data pieces_at is_piece record_at all_zero bytes
no_such_claim = refl

padding : fault (set bytes 50 1) ≡ Some 34
unfolding fault read_from at_most step_at with_data pieces_at is_piece record_at all_zero bytes
padding = refl

owed_at_the_end : fault (take 34 bytes) ≡ Some 34
unfolding fault read_from at_most step_at with_data pieces_at is_piece record_at all_zero bytes
owed_at_the_end = refl

stops_there : Stopped (take 34 bytes) nothing 0 34
unfolding fault
stops_there = first-fault (take 34 bytes) 34 owed_at_the_end

-- the beginning of 34 bytes, as a power cut leaves it
torn : Torn (take 34 bytes) (drop 34 bytes) 0 (reading_of (take 34 bytes)) (reading_of (take 34 bytes ++ drop 34 bytes))
unfolding bytes
torn = torn_trace (take 34 bytes) (drop 34 bytes) no_fault
