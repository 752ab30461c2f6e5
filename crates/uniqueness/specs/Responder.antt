-- Our responder (the dock of the specification) as a `Responder` of `link`: its calls are what the contracts of the functions give outright, its
-- names and data are the set-up's, and conflicting and later are the tests that receive itself makes. Assumes nothing: these are definitions.
use Rattle.std.specs.Prelude.{Bool, cond, ◌&&◌, ◌||◌, List, [], ◌∷◌, ◌++◌, ℕ, eqb, Option as StdOption, Some, None}
use Rattle.std.proofs.Math.Option.{Option, none, some}
use Rattle.wire.specs.case_folding.Fold.{same_name}
use Rattle.wire.specs.message.Message.{Record, Message, is_response, all_records}
use Rattle.wire.specs.message.Layout.{Reads, read, refused, message_at}
use Rattle.own.specs.declared.records.Setup.{Setup}
use Rattle.own.specs.records.Records.{has_record, own_rdata}
use Rattle.own.specs.changes.Changes.{revised, change_of}
use Rattle.claims.specs.changes.Changes.{changed_record}
use Rattle.claims.specs.records.Own.{own_type, claimed}
use Rattle.claims.specs.declared.records.Claim as own
use Rattle.claims.specs.declared.records.Claim.TheVariants.{Instance, Host}
use Rattle.claims.specs.declared.records.Own.{Own}
use Rattle.claims.specs.declared.holds.Address.{Address}
use Rattle.claims.specs.declared.Progress.{Progress}
use Rattle.claims.specs.steps.Steps.{steps, step_due}
use Rattle.claims.specs.declared.steps.Step.{Step}
use Rattle.wire.specs.Lists.{some as some_of}
use Rattle.facts.specs.probe.Probe.{is_probe, under}
use Rattle.facts.specs.Facts.{in_conflict, claim_name, theirs_later}
use Rattle.responder.specs.Handed.{Arrival, Tick}
use Rattle.responder.specs.Calls.{start_of, received_packet, unicast_packet, receive_of, ticked_packet, tick_of}
use Rattle.responder.specs.changes.Changes.{stopped_packet, stop_of, Update, updated_packet, update_of}
use Rattle.responder.specs.declared.State.{State}
use Rattle.responder.specs.declared.Answer.{Answer}
use Rattle.responder.specs.declared.Answer.TheVariants.{Refused, Quiet, Sent, Unicast, Both}
use Rattle.link.specs.Responder as link
use Rattle.link.specs.Responder.{Responder, Claim, instance, host, Parcel}

-- the two claims by the names that the own records' crate has for them
abbrev pub own_claim : Claim → own.Claim
own_claim instance = Instance
own_claim host = Host

-- ---- the calls

-- "Each start not refused begins a dock"
abbrev pub begun_by : Answer → State → Option State
begun_by (Refused refusal) x = none
begun_by Quiet x = some x
begun_by (Sent n) x = some x  -- never: a start sends nothing
begun_by (Unicast n) x = some x  -- nor this
begun_by (Both n u) x = some x  -- nor these

-- what is sent of a packet, nothing where it is empty
abbrev pub sends : link.Destination → List ℕ → List Parcel
sends to [] = []
sends to (b ∷ bs) = record { to = to; bytes = b ∷ bs } ∷ []

-- an address by its two halves
abbrev pub halves : Address → List ℕ
halves a = a.high ∷ a.low ∷ []

-- the address and port that a packet came from
abbrev pub back_to : Arrival → link.Destination
back_to a = link.unicast (halves a.from) a.port

-- what a call that may send answers: `ps` is what it sends
abbrev pub answered_by : Answer → State → List Parcel → link.Answer State
answered_by (Refused refusal) x ps = link.refused
answered_by Quiet x ps = link.accepted x ps
answered_by (Sent n) x ps = link.accepted x ps
answered_by (Unicast n) x ps = link.accepted x ps
answered_by (Both n u) x ps = link.accepted x ps

unfoldable pub start : Setup → ℕ → ℕ → Option State
start s now draw = begun_by (start_of s now draw).answer (start_of s now draw).state

unfoldable pub tick : State → Tick → link.Answer State
tick x t = answered_by (tick_of x t).answer (tick_of x t).state (sends link.everyone (ticked_packet x t))

-- the packet that goes to all, then the one that goes to where the packet came from
abbrev pub sent_for : State → Arrival → List Parcel
sent_for x a = sends link.everyone (received_packet x a) ++ sends (back_to a) (unicast_packet x a)

unfoldable pub receive : State → Arrival → link.Answer State
receive x a = answered_by (receive_of x a).answer (receive_of x a).state (sent_for x a)

unfoldable pub stop : State → Tick → link.Answer State
stop x t = answered_by (stop_of x t).answer (stop_of x t).state (sends link.everyone (stopped_packet x t))

unfoldable pub update : State → Update → link.Answer State
update x u = answered_by (update_of x u).answer (update_of x u).state (sends link.everyone (updated_packet x u))

-- "an update of SRV port or TXT": the type of the record, and the set-up with the new data
abbrev pub changes : Update → ℕ
changes u = own_type (changed_record (change_of u.new))

abbrev pub revise : Update → Setup → Setup
revise u s = revised s u.new

-- a time, where there is one
abbrev pub listed : StdOption ℕ → List ℕ
listed None = []
listed (Some u) = u ∷ []

-- the times at which steps are due
unfoldable pub due_times : List Step → Progress → List ℕ
due_times [] progress = []
due_times (s ∷ ss) progress = listed (step_due s progress) ++ due_times ss progress

-- the due steps: "instance, host, then PTR reply", then the held queries
unfoldable pub due : State → List ℕ
due x = due_times steps x.progress

-- ---- names and data

-- of some records the one of a type
unfoldable pub of_type : ℕ → List Own → Option Own
of_type type [] = none
of_type type (o ∷ os) = cond (eqb type (own_type o)) (some o) (of_type type os)

-- "Claims: the instance name with SRV and TXT, the host name with A and AAAA": the claim's record of a type (SRV 33, TXT 16, A 1, AAAA 28).
-- `claimed` has the records by which a message is tested below.
unfoldable pub claim_record : Claim → ℕ → Option Own
claim_record k type = of_type type (claimed (own_claim k))

-- its rdata, names expanded, if the set-up has the record (AAAA "may be missing")
abbrev pub data_of : Setup → Option Own → Option (List ℕ)
data_of s none = none
data_of s (some r) = cond (has_record s r) (some (own_rdata s r)) none

abbrev pub rdata : Setup → Claim → ℕ → Option (List ℕ)
rdata s k type = data_of s (claim_record k type)

-- the claim's name, uncompressed
abbrev pub name : Setup → Claim → List ℕ
name s k = claim_name s (own_claim k)

-- ---- what a packet says

-- the message that a packet is read as
abbrev pub message_of : Reads → Option Message
message_of (read l m) = some m
message_of (refused n) = none

abbrev pub read_as : List ℕ → Option Message
read_as p = message_of (message_at p)

-- "demand 3 and L13 speak only of SRV, TXT, A and AAAA" (33, 16, 1, 28)
abbrev pub is_data : ℕ → Bool
is_data type = eqb type 33 || (eqb type 16 || (eqb type 1 || eqb type 28))

abbrev pub data_under : List ℕ → Record → Bool
data_under n r = under n r && is_data r.rtype

-- "a response with a record under it", of any section
unfoldable pub responds : Message → List ℕ → Bool
responds m n = is_response m.flags && some_of (data_under n) (all_records m)

-- "A response record of any section conflicts when name, class 1 and type are the claim's, TTL is not 0 and rdata differs."
unfoldable pub conflicts : Message → Setup → Claim → Bool
conflicts m s k = is_response m.flags && in_conflict s (own_claim k) m

-- "A probe is a query with a .. question for the claim's name and at least one Authority record under it"; "theirs is later"
unfoldable pub defeats : Message → Setup → Claim → Bool
defeats m s k = is_probe (name s k) m && theirs_later s (own_claim k) m

abbrev pub responder : Responder
responder = record {
  Setup = Setup;
  State = State;
  Message = Message;
  Tick = Tick;
  Arrival = Arrival;
  Update = Update;
  tick_time = λ t. t.time;
  arrival_time = λ a. a.time;
  update_time = λ u. u.time;
  packet = λ a. a.packet;
  from = λ a. halves a.from;
  port = λ a. a.port;
  start = start;
  tick = tick;
  receive = receive;
  stop = stop;
  update = update;
  changes = changes;
  revise = revise;
  due = due;
  name = name;
  rdata = rdata;
  same_name = same_name;
  read = read_as;
  responds = responds;
  conflicts = conflicts;
  defeats = defeats;
}
