-- Playing the event at an offset to a responder in lent bytes: what it came to in numbers, the bytes that the state then has, and what they say. The contract is the
-- record `Plays`. Assumes nothing: these are definitions.
use Rattle.std.specs.Prelude.{ℕ, ◌≡◌, Bool, false, cond, List, length, eqb, Option, Some, None, Ok, Err}
use Rattle.responder.specs.Runs.{Call}
use Rattle.responder.specs.declared.State.{State}
use Rattle.trace.specs.reading.Reading.{Step, step_at}
use Rattle.trace.specs.reading.Events.{occurrence, data_in}
use Rattle.playing.specs.Playing.{call_of, number_for, played_at}
use Rattle.playing.specs.declared.Turn.{Turn}
use Rattle.playing.specs.declared.Turn.TheVariants as turn
use Rattle.capi_responder.specs.codec.Layout.{state_size}
use Rattle.capi_responder.specs.codec.Codec.{decode}
use Rattle.capi_responder.specs.Exported.{bytes_after}
use Rattle.capi_player.specs.declared.PlayedTurn.{PlayedTurn}

-- ---- in numbers

-- a turn on no claim
abbrev pub numbers : ℕ → ℕ → ℕ → ℕ → PlayedTurn
numbers refusal kind call at = record { refusal = refusal; turn = kind; call = call; agrees = false; at = at; last = 0; claim = 0; state = 0 }

abbrev pub turn_numbers : Turn → ℕ → ℕ → PlayedTurn
turn_numbers turn.End call at = numbers 0 0 call at
turn_numbers (turn.Refused offset) call at = numbers 12 0 call offset
turn_numbers (turn.Called next) call at = numbers 0 1 call next
turn_numbers (turn.Shown line next) call at = record {
  refusal = 0;
  turn = 2;
  call = call;
  agrees = line.agrees;
  at = next;
  last = line.last;
  claim = line.claim;
  state = line.state;
}

-- a buffer of another length is no state, and refused as 7
abbrev pub no_state : ℕ → PlayedTurn
no_state at = numbers 7 0 0 at

abbrev pub is_state : List ℕ → Bool
is_state b = eqb (length b) state_size

unfoldable pub answer_of : List ℕ → List ℕ → ℕ → PlayedTurn
answer_of b p at = cond (is_state b) (turn_numbers (played_at p at (decode b)).turn (number_for (played_at p at (decode b)).refusal) at) (no_state at)

-- ---- the state

-- a call was made, and taken
abbrev pub is_taken : Turn → ℕ → Bool
is_taken turn.End call = false
is_taken (turn.Refused offset) call = false
is_taken (turn.Called next) call = eqb call 0
is_taken (turn.Shown line next) call = false

-- the state's bytes after the call of an event are those that the exported call leaves; where there is no call, they stay
abbrev pub bytes_by : List ℕ → Option Call → List ℕ
bytes_by b None = b
bytes_by b (Some c) = bytes_after b c

abbrev pub bytes_behind : List ℕ → List ℕ → Step → List ℕ
bytes_behind b p (Ok None) = b
bytes_behind b p (Ok (Some e)) = bytes_by b (call_of (occurrence e.event (data_in p e)))
bytes_behind b p (Err r) = b

unfoldable pub bytes_played : List ℕ → List ℕ → ℕ → List ℕ
bytes_played b p at = cond (is_state b) (bytes_behind b p (step_at p at)) b

-- and they say the player's state
unfoldable pub state_played : List ℕ → List ℕ → ℕ → State
state_played b p at = cond (is_state b) (played_at p at (decode b)).state (decode b)

pub record Plays (b p : List ℕ) (at : ℕ) (r : PlayedTurn) (b' : List ℕ) : Type 0 where
  pub answers : r ≡ answer_of b p at
  pub bytes : b' ≡ bytes_played b p at
  pub says : decode b' ≡ state_played b p at
