-- The bytes of events: a trace is those of its events, one after the other. Assumes nothing: these are definitions.
use Rattle.std.specs.Prelude.{ℕ, zero, suc, ◌-◌, List, [], ◌∷◌, ◌++◌, cond, length, take, drop, replicate}
use Rattle.claims.specs.declared.holds.Address.{Address}
use Rattle.trace.specs.records.Numbers.{bytes16, bytes64}
use Rattle.trace.specs.reading.Reading.{is_usual, pieces_of}
use Rattle.trace.specs.reading.Events.{Occurrence, tick, packet, claim, stop, port, txt}

-- a kind, and a number of 64 bits
abbrev pub headed : ℕ → ℕ → List ℕ
headed kind n = kind ∷ bytes64 n

-- "3 sixteen packet bytes, the last padded with zeros"
abbrev pub piece_of : List ℕ → List ℕ
piece_of bytes = 3 ∷ (bytes ++ replicate (16 - length bytes) 0)

-- so many pieces of some bytes
unfoldable pub pieces_over : ℕ → List ℕ → List ℕ
pieces_over zero bytes = []
pieces_over (suc k) bytes = piece_of (take 16 bytes) ++ pieces_over k (drop 16 bytes)

abbrev pub pieces_for : List ℕ → List ℕ
pieces_for bytes = pieces_over (pieces_of (length bytes)) bytes

-- kind 5: "16 bytes of source address and 2 of hold draw"
abbrev pub source_bytes : Address → ℕ → List ℕ
source_bytes from hold = (headed 5 from.high ++ bytes64 from.low) ++ bytes16 hold

-- it is left out where it is the usual one
abbrev pub source_over : Address → ℕ → List ℕ
source_over from hold = cond (is_usual from hold) [] (source_bytes from hold)

-- "2 packet received, 8 of time, 2 of source port, 1 of draw, 2 of length"
abbrev pub packet_numbers : ℕ → ℕ → ℕ → List ℕ
packet_numbers p draw len = bytes16 p ++ (draw ∷ bytes16 len)

abbrev pub packet_bytes : ℕ → ℕ → ℕ → List ℕ → List ℕ
packet_bytes time p draw bytes = (headed 2 time ++ packet_numbers p draw (length bytes)) ++ pieces_for bytes

abbrev pub txt_bytes : ℕ → List ℕ → List ℕ
txt_bytes time bytes = (headed 8 time ++ bytes16 (length bytes)) ++ pieces_for bytes

-- "1 tick, 8 bytes of time", "4 claim state as it then is, 8 of the dock state's last time, 1 of claim, 1 of state"; 6 a stop, 8 of time; 7 an update of the
-- port, 8 of time, 2 of port; 8 an update of TXT, 8 of time, 2 of length, and its pieces
abbrev pub bytes_of : Occurrence → List ℕ
bytes_of (tick time) = headed 1 time
bytes_of (packet time from p draw hold bytes) = source_over from hold ++ packet_bytes time p draw bytes
bytes_of (claim last k state) = headed 4 last ++ (k ∷ state ∷ [])
bytes_of (stop time) = headed 6 time
bytes_of (port time p) = headed 7 time ++ bytes16 p
bytes_of (txt time bytes) = txt_bytes time bytes

-- the trace of a list of events
unfoldable pub trace_of : List Occurrence → List ℕ
trace_of [] = []
trace_of (o ∷ os) = bytes_of o ++ trace_of os
