-- Calls to which the theorems apply, so that they are not about nothing: a holder of both names is asked for its address, with the address as a known answer; and
-- it is asked so with the TC bit, holds the query, and answers it at its step. Proved in proofs/Witness.antt. Assumes nothing.
use Rattle.std.specs.Prelude.{ℕ, ◌≡◌, true, false, [], ◌∷◌, Some, None}
use Rattle.wire.specs.message.Message.{Message}
use Rattle.own.specs.records.Records.{own_name, own_rdata}
use Rattle.claims.specs.Time.{never_sent, marked_all}
use Rattle.claims.specs.records.Sets.{only}
use Rattle.claims.specs.declared.records.Own.TheVariants.{A}
use Rattle.claims.specs.declared.ClaimState.TheVariants.{Held}
use Rattle.claims.specs.holds.Holds.{no_hold, no_holds, hold_at}
use Rattle.claims.specs.declared.holds.Place.TheVariants.{Fourth}
use Rattle.writer.specs.own_packets.Packets.{packet_of}
use Rattle.roundtrip.specs.Cases.{sample}
use Rattle.roundtrip.specs.Writable.{layout_of}
use Rattle.responder.specs.Handed.{Arrival, Tick}
use Rattle.responder.specs.Refusals.{tick_refusal}
use Rattle.responder.specs.Calls.{receive_of, tick_of}
use Rattle.responder.specs.Causes.{is_wanted, is_unicast}
use Rattle.responder.specs.declared.State.{State}
use Rattle.causes.specs.Statement.{Accepted, is_held_back, wanted_by}
use Rattle.causes.specs.Plain.{is_replied}

abbrev pub holder : State
holder = record {
  setup = sample;
  progress = record { instance = Held; host = Held; sent = never_sent; reply = None; holds = no_holds; updated = None; draw = 0; last = 0 };
}

-- the query, and the call that is handed its packet
unfoldable pub query_of : ℕ → ℕ → ℕ → Message
query_of flags class ttl = record {
  id = 0;
  flags = flags;
  questions = record { name = own_name sample A; rtype = 1; class = class } ∷ [];
  answers = record { owner = own_name sample A; rtype = 1; class = 1; ttl = ttl; rdata = own_rdata sample A } ∷ [];
  authorities = [];
  additionals = [];
}

abbrev pub query_with : ℕ → ℕ → Message
query_with flags ttl = query_of flags 1 ttl

abbrev pub query : ℕ → Message
query ttl = query_with 0 ttl

-- with the unicast bit in its question
abbrev pub qu_query : Message
qu_query = query_of 0 0x8001 59

-- the holder, whose address was multicast at 0, and a call that hands it that query
abbrev pub announced : State
announced = record {
  setup = sample;
  progress = record { instance = Held; host = Held; sent = marked_all (only A) never_sent 0; reply = None; holds = no_holds; updated = None; draw = 0; last = 0 };
}

abbrev pub qu_asked : ℕ → Arrival
qu_asked time = record {
  time = time;
  from = record { high = 0; low = 1 };
  port = 5353;
  draw = 20;
  hold = 450;
  packet = packet_of false qu_query;
  room = 1452;
  unicastroom = 1452;
}

abbrev pub asked_with : ℕ → ℕ → Arrival
asked_with flags ttl = record {
  time = 0;
  from = record { high = 0; low = 1 };
  port = 5353;
  draw = 20;
  hold = 450;
  packet = packet_of false (query_with flags ttl);
  room = 1452;
  unicastroom = 1452;
}

abbrev pub asked : ℕ → Arrival
asked ttl = asked_with 0 ttl

-- the same query from a plain resolver
abbrev pub plainly_asked : ℕ → Arrival
plainly_asked ttl = record {
  time = 0;
  from = record { high = 0; low = 1 };
  port = 1024;
  draw = 20;
  hold = 450;
  packet = packet_of false (query ttl);
  room = 1452;
  unicastroom = 1452;
}

-- with the TC bit, the state that holds the query, and the tick at which it is due
abbrev pub truncated : Message
truncated = query_with 512 59

abbrev pub holding : State
holding = (receive_of holder (asked_with 512 59)).state

abbrev pub tick : ℕ → Tick
tick time = record { time = time; room = 1452 }

-- `witness`: the calls are accepted; at half the TTL the address is known, below it goes out; asked for with the unicast bit it goes to the asker up to 30,000 ms after
-- its multicast, and from then on to all; a plain resolver gets it all the same; with TC the query is held, and answered when it is due
pub record Witness : Type 0 where
  pub known : Accepted holder (asked 60) (layout_of false (query 60)) (query 60)
  pub left : is_wanted holder 0 (query 60) A ≡ false
  pub unknown : Accepted holder (asked 59) (layout_of false (query 59)) (query 59)
  pub goes : is_wanted holder 0 (query 59) A ≡ true
  pub wants_unicast : Accepted announced (qu_asked 29999) (layout_of false qu_query) qu_query
  pub to_asker : is_unicast announced 29999 qu_query A ≡ true
  pub not_to_all : is_wanted announced 29999 qu_query A ≡ false
  pub later : Accepted announced (qu_asked 30000) (layout_of false qu_query) qu_query
  pub not_to_asker : is_unicast announced 30000 qu_query A ≡ false
  pub to_all : is_wanted announced 30000 qu_query A ≡ true
  pub plain : Accepted holder (plainly_asked 60) (layout_of false (query 60)) (query 60)
  pub replied : is_replied holder (query 60) A ≡ true
  pub held : Accepted holder (asked_with 512 59) (layout_of false truncated) truncated
  pub held_back : is_held_back holder (asked_with 512 59) truncated ≡ true
  pub accepted : tick_refusal holding (tick 450) ≡ 0
  pub due : (hold_at Fourth holding.progress.holds).due ≡ Some 450
  pub answers : wanted_by holding 450 (hold_at Fourth holding.progress.holds) ≡ A ∷ []
  pub gone : hold_at Fourth (tick_of holding (tick 450)).state.progress.holds ≡ no_hold
