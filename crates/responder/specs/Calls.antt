-- A start, a packet received and a tick (specification, 'Refusal numbers', 'A claim's life', 'Which answers go out'): the answer, the state after the call and
-- the packet that it sends, put together from what the parts below say. Assumes nothing: these are definitions.
use Rattle.std.specs.Prelude.{ℕ, Bool, false, cond, List, [], ◌∷◌, length, replicate, eqb, ◌≡◌, None, Result, Ok, Err}
use Rattle.wire.specs.refusals.Numbers.{number_of, refused_by}
use Rattle.wire.specs.declared.refusals.Refusal.{Refusal}
use Rattle.wire.specs.message.Message.{Question, Message}
use Rattle.wire.specs.message.Layout.{Reads, read, refused, message_at}
use Rattle.own.specs.declared.records.Setup.{Setup}
use Rattle.claims.specs.Claims as claims
use Rattle.claims.specs.declared.ClaimState.TheVariants.{Lost}
use Rattle.claims.specs.Time.{never_sent}
use Rattle.claims.specs.records.Sets.{no_record}
use Rattle.claims.specs.declared.records.Set.{Set}
use Rattle.claims.specs.declared.Progress.{Progress}
use Rattle.claims.specs.steps.Tick as steps
use Rattle.claims.specs.declared.steps.Output.{Output}
use Rattle.claims.specs.declared.steps.Output.TheVariants.{Nothing, Probe, Response}
use Rattle.claims.specs.declared.steps.Ticked as walked
use Rattle.claims.specs.answers.Answers as answers
use Rattle.claims.specs.answers.Held as held
use Rattle.claims.specs.holds.Holds.{no_holds}
use Rattle.claims.specs.declared.answers.Received as heard
use Rattle.claims.specs.declared.answers.Coming.{Coming}
use Rattle.claims.specs.declared.answers.Facts.{Facts}
use Rattle.facts.specs.Facts.{facts_of}
use Rattle.writer.specs.own_packets.Own.{response_packet, probe_packet, plain_packet, unless_refused, laid_over}
use Rattle.responder.specs.Handed.{Arrival, coming_of, Tick}
use Rattle.responder.specs.Refusals.{start_tests, start_refusal, receive_tests, receive_refusal, tick_tests, tick_refusal}
use Rattle.responder.specs.declared.State.{State}
use Rattle.responder.specs.declared.Answer.{Answer}
use Rattle.responder.specs.declared.Answer.TheVariants.{Refused, Quiet, Sent, Unicast, Both}
use Rattle.responder.specs.declared.Started.{Started}
use Rattle.responder.specs.declared.Received.{Received}
use Rattle.responder.specs.declared.Ticked.{Ticked}

-- The specification's values for each answer: the number of the refusal, 0 for none, and the lengths of the packet that goes to all and of the one that goes to
-- the asker
abbrev pub refusal_of : Answer → ℕ
refusal_of (Refused refusal) = number_of refusal
refusal_of Quiet = 0
refusal_of (Sent n) = 0
refusal_of (Unicast n) = 0
refusal_of (Both n u) = 0

abbrev pub length_of : Answer → ℕ
length_of (Refused refusal) = 0
length_of Quiet = 0
length_of (Sent n) = n
length_of (Unicast n) = 0
length_of (Both n u) = n

abbrev pub unicast_length_of : Answer → ℕ
unicast_length_of (Refused refusal) = 0
unicast_length_of Quiet = 0
unicast_length_of (Sent n) = 0
unicast_length_of (Unicast n) = n
unicast_length_of (Both n u) = u

-- where a packet goes: to all on the link, or to where the message came from that it answers
pub data Destination : Type 0 where
  multicast : Destination
  unicast : Destination

-- the answer for packets of these lengths, to all and to the asker, where one of no bytes is none
abbrev pub answer_with : ℕ → ℕ → Answer
answer_with n u = cond (eqb n 0) (cond (eqb u 0) Quiet (Unicast u)) (cond (eqb u 0) (Sent n) (Both n u))

-- "A refusal returns the number alone"
abbrev pub answer_of : Result (Unit {0}) Refusal → List ℕ → List ℕ → Answer
answer_of (Ok u) packet reply = answer_with (length packet) (length reply)
answer_of (Err refusal) packet reply = Refused refusal

-- ".. state .. keep every byte"
abbrev pub state_of : ℕ → State → Progress → State
state_of refusal s progress = cond (eqb refusal 0) (record { setup = s.setup; progress = progress }) s

-- ---- a start

-- The state of a refused start, which the specification leaves free: every label and string is empty, both claims are lost, nothing was multicast, no query is
-- held, nothing was updated.
unfoldable pub blank : State
blank = record {
  setup = record {
    instance = record { bytes = replicate 63 0; len = 0 };
    service = record { bytes = replicate 16 0; len = 0 };
    protocol = replicate 4 0;
    host = record { bytes = replicate 63 0; len = 0 };
    domain = replicate 5 0;
    port = 0;
    txt = record { bytes = replicate 400 0; len = 0 };
    a = replicate 4 0;
    hasaaaa = false;
    aaaa = replicate 16 0;
  };
  progress = record {
    instance = Lost;
    host = Lost;
    sent = never_sent;
    reply = None;
    holds = no_holds;
    updated = None;
    draw = 0;
    last = 0;
  };
}

abbrev pub start_state : ℕ → Setup → ℕ → ℕ → State
start_state refusal setup time draw = cond (eqb refusal 0) (record { setup = setup; progress = claims.begun_at time draw }) blank

unfoldable pub start_of : Setup → ℕ → ℕ → Started
start_of setup time draw = record {
  answer = answer_of (refused_by (start_tests setup time draw)) [] [];
  state = start_state (start_refusal setup time draw) setup time draw;
}

-- ---- what a call sends

unfoldable pub packet_for : Setup → Output → List ℕ
packet_for setup Nothing = []
packet_for setup (Probe k) = probe_packet setup k
packet_for setup (Response set) = response_packet setup 0 set

pub record Parcel : Type 0 where
  pub to : Destination
  pub bytes : List ℕ

-- what is sent of a packet, where an empty one is none
abbrev pub parcels : Destination → List ℕ → List Parcel
parcels to [] = []
parcels to (b ∷ bs) = record { to = to; bytes = b ∷ bs } ∷ []

-- ---- a packet received

-- a message came from port 5353; only a query comes from another, from a plain resolver
abbrev pub from_mdns : ℕ → Bool
from_mdns port = eqb port 5353

-- what a message that came by a port does to the claims, and which records go out for it
abbrev pub heard_by : Progress → ℕ → Coming → Facts → Bool → heard.Received
heard_by progress port c f aaaa = cond (from_mdns port) (held.receive_of progress c f aaaa) (answers.plain_of progress c.now f aaaa)

-- What a message does to a state: the progress after it, and the records that go out at once, to all and to the asker. A message that is refused says nothing.
abbrev pub heard_of : State → Arrival → Reads → heard.Received
heard_of s a (read l m) = heard_by s.progress a.port (coming_of a) (facts_of s.setup m) s.setup.hasaaaa
heard_of s a (refused n) = record { progress = s.progress; answers = no_record; unicast = no_record }

-- "Only a query of exactly one question is answered": the reply to a plain resolver, "its ID and question bytes repeated"
abbrev pub plain_for : Setup → Set → ℕ → List Question → List ℕ
plain_for setup set id [] = []
plain_for setup set id (q ∷ []) = plain_packet setup set id q
plain_for setup set id (q ∷ (r ∷ rs)) = []

-- "SRV, TXT, A, AAAA go out at once in one packet."
unfoldable pub received_packet : State → Arrival → List ℕ
received_packet s a = unless_refused (receive_refusal s a) (packet_for s.setup (Response (heard_of s a (message_at a.packet)).answers))

-- The packet with which a message is answered to its sender: "Unicast answers carry the query's ID"; or it is the reply to a plain resolver.
abbrev pub reply_to : Setup → ℕ → Set → Message → List ℕ
reply_to setup port set m = cond (from_mdns port) (response_packet setup m.id set) (plain_for setup set m.id m.questions)

abbrev pub brought_back : State → Arrival → Set → Reads → List ℕ
brought_back s a set (read l m) = reply_to s.setup a.port set m
brought_back s a set (refused n) = []

unfoldable pub unicast_packet : State → Arrival → List ℕ
unicast_packet s a =
    unless_refused (receive_refusal s a) (brought_back s a (heard_of s a (message_at a.packet)).unicast (message_at a.packet))

unfoldable pub receive_of : State → Arrival → Received
receive_of s a = record {
  answer = answer_of (refused_by (receive_tests s a)) (received_packet s a) (unicast_packet s a);
  state = state_of (receive_refusal s a) s (heard_of s a (message_at a.packet)).progress;
}

-- what `receive` gives, over the out buffers for what goes to all and for what goes to the asker
pub record Receives (s : State) (a : Arrival) (out back : List ℕ) (r : Received) (out' back' : List ℕ) : Type 0 where
  pub answers : r ≡ receive_of s a
  pub writes : out' ≡ laid_over (received_packet s a) out
  pub replies : back' ≡ laid_over (unicast_packet s a) back
  pub number : refusal_of r.answer ≡ receive_refusal s a
  pub sent : length_of r.answer ≡ length (received_packet s a)
  pub replied : unicast_length_of r.answer ≡ length (unicast_packet s a)

-- ---- a tick

-- the due steps of a state
abbrev pub walked_of : State → ℕ → walked.Ticked
walked_of s time = steps.tick_of s.progress time s.setup.hasaaaa

-- "the first that sends ends the tick"
unfoldable pub ticked_packet : State → Tick → List ℕ
ticked_packet s t = unless_refused (tick_refusal s t) (packet_for s.setup (walked_of s t.time).output)

-- "It says whether more is due."
unfoldable pub tick_of : State → Tick → Ticked
tick_of s t = record {
  answer = answer_of (refused_by (tick_tests s t)) (ticked_packet s t) [];
  more = cond (eqb (tick_refusal s t) 0) (walked_of s t.time).more false;
  state = state_of (tick_refusal s t) s (walked_of s t.time).progress;
}

-- what `tick` gives, over an out buffer
pub record Ticks (s : State) (t : Tick) (out : List ℕ) (r : Ticked) (out' : List ℕ) : Type 0 where
  pub answers : r ≡ tick_of s t
  pub writes : out' ≡ laid_over (ticked_packet s t) out
  pub number : refusal_of r.answer ≡ tick_refusal s t
  pub sent : length_of r.answer ≡ length (ticked_packet s t)
