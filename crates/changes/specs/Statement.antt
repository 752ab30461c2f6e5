-- What is promised of the bytes that go out with a stop, and after an update (specification, 'Stops and updates'), as statements. Each is proved in proofs/
-- under the name that its comment gives. Assumes nothing.
use Rattle.std.specs.Prelude.{ℕ, ◌/◌, ◌%◌, ◌≡◌, List, [], ◌∷◌, ◌++◌, map, Bool, false, ◌&&◌}
use Rattle.wire.specs.labels.Labels.{encode}
use Rattle.wire.specs.message.Message.{Record, Message}
use Rattle.wire.specs.message.Layout.{read, message_at}
use Rattle.wire.specs.declared.message.Layout.{Layout}
use Rattle.own.specs.declared.records.Setup.{Setup}
use Rattle.own.specs.records.Setups.{host_labels}
use Rattle.own.specs.records.Records.{has_record, own_name, own_rdata}
use Rattle.own.specs.changes.Changes.{NewData, new_port, new_txt, change_of}
use Rattle.claims.specs.Claims.{held_now, claim_of}
use Rattle.claims.specs.records.Own.{all, claim_for, carries_data, own_type, own_class, has}
use Rattle.claims.specs.records.Sets.{picked, only}
use Rattle.claims.specs.changes.Changes.{changed_record}
use Rattle.claims.specs.declared.records.Own.{Own}
use Rattle.roundtrip.specs.Writable.{Each}
use Rattle.responder.specs.Handed.{Tick}
use Rattle.responder.specs.Refusals.{tick_refusal}
use Rattle.responder.specs.changes.Changes.{stopped_packet, Update, update_refusal, update_of}
use Rattle.responder.specs.Runs.{Call, updated, state_after, packet_of, unicast_of, run}
use Rattle.responder.specs.Data.{taken_by, taken}
use Rattle.responder.specs.declared.State.{State}

-- ---- a stop

-- the records that a responder holds, PTR with the instance's, in the order of a response: those that carry data and that the set-up has, of a claim that is
-- held
abbrev pub is_held : State → Own → Bool
is_held s o = held_now (claim_of (claim_for o) s.progress) && (carries_data o && has_record s.setup o)

unfoldable pub held_records : State → List Own
held_records s = picked (is_held s) all

-- "with TTL 0", and its own name, type, class and rdata
abbrev pub parting : Setup → Own → Record
parting s o = record { owner = own_name s o; rtype = own_type o; class = own_class o; ttl = 0; rdata = own_rdata s o }

-- a response of ID 0 with these records alone
unfoldable pub farewell : State → Message
farewell s = record {
  id = 0;
  flags = 0x8400;
  questions = [];
  answers = map (parting s.setup) (held_records s);
  authorities = [];
  additionals = [];
}

-- `goodbye-exactly`: of every state, a stop that is taken sends a packet that is read as exactly the held records, where any is held, and else none
abbrev pub GoodbyeExactly : Type 0
GoodbyeExactly =
    (s : State) (t : Tick) → tick_refusal s t ≡ 0
    → ((held_records s ≡ [] → ⊥) → (l : Layout) × (message_at (stopped_packet s t) ≡ read l (farewell s)))
    × (held_records s ≡ [] → stopped_packet s t ≡ [])

-- ---- what is sent after an update

-- a record of a message that is an own record of a set-up, with its data
pub record OwnIn (s : Setup) (r : Record) : Type 0 where
  pub own : Own
  pub owner : r.owner ≡ own_name s own
  pub rtype : r.rtype ≡ own_type own
  pub rdata : r.rdata ≡ own_rdata s own

-- the records of a message in its sections
abbrev pub records_in : Message → List Record
records_in m = m.answers ++ (m.authorities ++ m.additionals)

-- a packet is none, or is read as a message all of whose records are own records of the set-up
pub data Carries (s : Setup) : List ℕ → Type 0 where
  nothing : Carries s []
  message : {packet : List ℕ} (l : Layout) (m : Message) → message_at packet ≡ read l m → Each (OwnIn s) (records_in m) → Carries s packet

-- `carries-data`: every packet that a call sends, to all or to the asker, has the data after that call; of an update that is taken the new ones
abbrev pub CarriesData : Type 0
CarriesData = (s : State) (c : Call) → Carries (state_after s c).setup (packet_of s c) × Carries (state_after s c).setup (unicast_of s c)

-- new data of the other record
abbrev pub Other : NewData → NewData → Type 0
Other d e = has (changed_record (change_of d)) (only (changed_record (change_of e))) ≡ false

-- what the updated record says then: "SRV: priority and weight 0", the port and the host; or TXT itself
abbrev pub says_now : Setup → NewData → List ℕ
says_now s (new_port port) = 0 ∷ 0 ∷ 0 ∷ 0 ∷ (port / 256) ∷ (port % 256) ∷ encode (host_labels s)
says_now s (new_txt txt) = txt

-- a record of a message that, where it is of the updated record's type, says the new data
abbrev pub SaysNew : Setup → NewData → Record → Type 0
SaysNew s d r = r.rtype ≡ own_type (changed_record (change_of d)) → r.rdata ≡ says_now s d

pub data NewIn (s : Setup) (d : NewData) : List ℕ → Type 0 where
  empty : NewIn s d []
  saying : {packet : List ℕ} (l : Layout) (m : Message) → message_at packet ≡ read l m → Each (SaysNew s d) (records_in m) → NewIn s d packet

-- `new-announced`: what an update that is taken sends says the new data
abbrev pub NewDataAnnounced : Type 0
NewDataAnnounced = (s : State) (u : Update) → update_refusal s u ≡ 0 → NewIn s.setup u.new (packet_of s (updated u))

-- `new-data`: after it, through any calls that take no update of the same record, each later call sends packets in which every record of the updated type says
-- the new data, so that no packet of the old data follows it
abbrev pub NewDataSent : Type 0
NewDataSent =
    (s : State) (u : Update) → update_refusal s u ≡ 0 → (cs : List Call) → Each (Other u.new) (taken (update_of s u).state cs)
    → (c : Call) → Each (Other u.new) (taken_by (run (update_of s u).state cs) c)
    → NewIn s.setup u.new (packet_of (run (update_of s u).state cs) c) × NewIn s.setup u.new (unicast_of (run (update_of s u).state cs) c)
