-- Start, packet received, tick, stop and update on lent bytes: the answer in numbers, the bytes that the state then has, and what they say. The contracts are the
-- records `Starts`, `Calls` and `Receives`. Assumes nothing: these are definitions.
use Rattle.std.specs.Prelude.{ℕ, ◌≡◌, Bool, false, cond, List, length, eqb}
use Rattle.std.proofs.lemmas.List.Edits.{sets}
use Rattle.own.specs.declared.records.Setup.{Setup}
use Rattle.writer.specs.own_packets.Own.{laid_over}
use Rattle.responder.specs.declared.State.{State}
use Rattle.responder.specs.declared.Answer.{Answer}
use Rattle.responder.specs.declared.Started.{Started}
use Rattle.responder.specs.Calls.{blank, refusal_of, length_of, unicast_length_of, unicast_packet, start_of}
use Rattle.responder.specs.Handed.{Arrival}
use Rattle.own.specs.changes.Changes.{NewData, new_port, new_txt, strings_of}
use Rattle.responder.specs.Runs.{Call, received, ticked, stopped, updated, answer_to, more_after, state_after, packet_of}
use Rattle.capi_responder.specs.codec.Layout as layout
use Rattle.capi_responder.specs.codec.Layout.{state_size}
use Rattle.capi_responder.specs.codec.Codec.{bytes16, strings_bytes, setup_of, decode, with_progress, with_setup}
use Rattle.capi_responder.specs.declared.Called.{Called}

-- The specification's values for an answer
abbrev pub called_with : Answer → Bool → Called
called_with answer more = record { refusal = refusal_of answer; more = more; length = length_of answer; unicast = unicast_length_of answer }

-- "A refusal returns the number alone .. state .. keep every byte."
abbrev pub unless_refused : {A : Type 0} → Answer → A → A → A
unless_refused answer after before = cond (eqb (refusal_of answer) 0) after before

-- ---- a start

-- The set-up that is started with: where either buffer has another length, one that a start refuses as 7.
unfoldable pub setup_for : List ℕ → ℕ → Setup
setup_for setup room = cond (eqb room state_size) (setup_of setup) blank.setup

abbrev pub started : List ℕ → List ℕ → ℕ → ℕ → Started
started b setup now draw = start_of (setup_for setup (length b)) now draw

-- the state's bytes after a start, and the state that they say
unfoldable pub started_bytes : List ℕ → List ℕ → ℕ → ℕ → List ℕ
started_bytes b setup now draw =
    unless_refused (started b setup now draw).answer (with_progress (with_setup b setup) (started b setup now draw).state.progress) b

unfoldable pub started_state : List ℕ → List ℕ → ℕ → ℕ → State
started_state b setup now draw = unless_refused (started b setup now draw).answer (started b setup now draw).state (decode b)

pub record Starts (b setup : List ℕ) (time draw : ℕ) (a : Called) (b' : List ℕ) : Type 0 where
  pub answers : a ≡ called_with (started b setup time draw).answer false
  pub bytes : b' ≡ started_bytes b setup time draw
  pub says : decode b' ≡ started_state b setup time draw

-- ---- a packet received, a tick, a stop, and an update

-- the bytes of a state with other data: the port, or the TXT strings with their length, where they stand
unfoldable pub with_data : List ℕ → NewData → List ℕ
with_data b (new_port port) = sets b layout.port (bytes16 port)
with_data b (new_txt txt) = sets b layout.txt (strings_bytes (strings_of txt))

-- only an update changes the set-up
abbrev pub setup_after : List ℕ → Call → List ℕ
setup_after b (received a) = b
setup_after b (ticked t) = b
setup_after b (stopped t) = b
setup_after b (updated u) = with_data b u.new

-- the state's bytes after a call
unfoldable pub bytes_after : List ℕ → Call → List ℕ
bytes_after b c = unless_refused (answer_to (decode b) c) (with_progress (setup_after b c) (state_after (decode b) c).progress) b

pub record Calls (b : List ℕ) (c : Call) (out : List ℕ) (a : Called) (b' out' : List ℕ) : Type 0 where
  pub answers : a ≡ called_with (answer_to (decode b) c) (more_after (decode b) c)
  pub bytes : b' ≡ bytes_after b c
  pub says : decode b' ≡ state_after (decode b) c
  pub writes : out' ≡ laid_over (packet_of (decode b) c) out

-- a packet received has a second out buffer, for what goes to where it came from
pub record Receives (b : List ℕ) (a : Arrival) (out unicast : List ℕ) (r : Called) (b' out' unicast' : List ℕ) : Type 0 where
  pub calls : Calls b (received a) out r b' out'
  pub replies : unicast' ≡ laid_over (unicast_packet (decode b) a) unicast
