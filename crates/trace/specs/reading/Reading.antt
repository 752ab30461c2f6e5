-- What stands at an offset of a trace where an event can begin. Assumes nothing: these are definitions.
use Rattle.std.specs.Prelude.{ℕ, zero, suc, ◌+◌, ◌-◌, ◌/◌, List, [], ◌∷◌, Bool, true, false, cond, ◌&&◌, length, take, drop, leb, eqb, Option, Some, None, Result, Ok, Err}
use Rattle.claims.specs.declared.holds.Address.{Address}
use Rattle.trace.specs.records.Records.{record_at}
use Rattle.trace.specs.declared.records.Record.{Record}
use Rattle.trace.specs.declared.records.Record.TheVariants as is
use Rattle.trace.specs.declared.reading.Event.{Event}
use Rattle.trace.specs.declared.reading.Event.TheVariants as event
use Rattle.trace.specs.declared.reading.Entry.{Entry}
use Rattle.trace.specs.declared.reading.Refused.{Refused}

-- the refusal of a trace at an offset
abbrev pub refused : {A : Type 0} → ℕ → Result A Refused
refused offset = Err (record { at = offset })

-- what stands at an offset: the trace's end, an event, or a refusal
abbrev pub Step : Type 0
Step = Result (Option Entry) Refused

unfoldable pub all_zero : List ℕ → Bool
all_zero [] = true
all_zero (b ∷ bs) = eqb b 0 && all_zero bs

-- the source that a packet has where none is told: "the address of sixteen zero bytes and the hold draw 400"
abbrev pub no_source : Address
no_source = record { high = 0; low = 0 }

abbrev pub usual_hold : ℕ
usual_hold = 400

abbrev pub is_usual : Address → ℕ → Bool
is_usual from hold = eqb from.high 0 && (eqb from.low 0 && eqb hold usual_hold)

-- "A kind 2 of length n is followed by exactly n/16 rounded up of kind 3, none for n of 0."
abbrev pub pieces_of : ℕ → ℕ
pieces_of n = (n + 15) / 16

-- the bytes of the piece at `at` behind its first `left`
abbrev pub padding_at : List ℕ → ℕ → ℕ → List ℕ
padding_at p at left = take (16 - left) (drop (at + 1 + left) p)

-- a piece stands there, where `left` bytes are owed: "sixteen packet bytes, the last padded with zeros"
abbrev pub is_padded : List ℕ → ℕ → ℕ → Option Record → Bool
is_padded p at left (Some is.Piece) = all_zero (padding_at p at left)
is_padded p at left (Some (is.Tick time)) = false
is_padded p at left (Some (is.Packet time port draw len)) = false
is_padded p at left (Some (is.Claim last claim state)) = false
is_padded p at left (Some (is.Source from hold)) = false
is_padded p at left (Some (is.Stop time)) = false
is_padded p at left (Some (is.Port time port)) = false
is_padded p at left (Some (is.Txt time len)) = false
is_padded p at left None = false

unfoldable pub is_piece : List ℕ → ℕ → ℕ → Bool
is_piece p at left = is_padded p at left (record_at p at)

-- so many pieces, of `left` bytes, from `at` on: where they end, or the offset of the first that cannot stand, or is missing
unfoldable pub pieces_at : ℕ → List ℕ → ℕ → ℕ → Result ℕ Refused
pieces_at zero p at left = Ok at
pieces_at (suc k) p at left = cond (is_piece p at left) (pieces_at k p (at + 17) (left - 16)) (refused at)

-- an event with the pieces that it owes
abbrev pub data_step : Event → ℕ → ℕ → Result ℕ Refused → Step
data_step e at len (Ok next) = Ok (Some (record { event = e; first = at; len = len; next = next }))
data_step e at len (Err r) = Err r

unfoldable pub with_data : List ℕ → Event → ℕ → ℕ → Step
with_data p e at len = data_step e at len (pieces_at (pieces_of len) p at len)

-- an event that owes none
abbrev pub alone_step : Event → ℕ → Step
alone_step e next = Ok (Some (record { event = e; first = next; len = 0; next = next }))

-- what stands behind the record of a source: "directly before a kind 2 and nowhere else"
abbrev pub behind_source : List ℕ → ℕ → Address → ℕ → Option Record → Step
behind_source p at from hold (Some (is.Packet time port draw len)) = with_data p (event.Packet time from port draw hold) (at + 14) len
behind_source p at from hold (Some (is.Tick time)) = refused at
behind_source p at from hold (Some is.Piece) = refused at
behind_source p at from hold (Some (is.Claim last claim state)) = refused at
behind_source p at from hold (Some (is.Source from2 hold2)) = refused at
behind_source p at from hold (Some (is.Stop time)) = refused at
behind_source p at from hold (Some (is.Port time port)) = refused at
behind_source p at from hold (Some (is.Txt time len)) = refused at
behind_source p at from hold None = refused at

-- the event that begins with a record
abbrev pub step_with : List ℕ → ℕ → Option Record → Step
step_with p at (Some (is.Tick time)) = alone_step (event.Tick time) (at + 9)
step_with p at (Some (is.Packet time port draw len)) = with_data p (event.Packet time no_source port draw usual_hold) (at + 14) len
step_with p at (Some is.Piece) = refused at
step_with p at (Some (is.Claim last claim state)) = alone_step (event.Claim last claim state) (at + 11)
step_with p at (Some (is.Source from hold)) = cond (is_usual from hold) (refused at) (behind_source p (at + 19) from hold (record_at p (at + 19)))
step_with p at (Some (is.Stop time)) = alone_step (event.Stop time) (at + 9)
step_with p at (Some (is.Port time port)) = alone_step (event.Port time port) (at + 11)
step_with p at (Some (is.Txt time len)) = with_data p (event.Txt time) (at + 11) len
step_with p at None = refused at

-- what stands at an offset: nothing at the end, an event, or the offset of the first record that is malformed or cannot stand where it does
unfoldable pub step_at : List ℕ → ℕ → Step
step_at p at = cond (leb (length p) at) (Ok None) (step_with p at (record_at p at))

-- an event that there has to be, as a step
abbrev pub found_in : Result Entry Refused → Step
found_in (Ok entry) = Ok (Some entry)
found_in (Err r) = Err r
