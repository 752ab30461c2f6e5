-- What a query from a port other than 5353 brings out of a responder (replies to plain resolvers; RFC 6762, 6.7), said of an accepted call: of the message that its
-- bytes are read as, and of the bytes that the call sends, read back. Proved in proofs/Plain.antt under the names that the comments give. Assumes nothing.
use Rattle.std.specs.Prelude.{◌≤◌, ◌≡◌, ◌≢◌, Bool, true, false, not, ◌&&◌, ◌||◌, List, [], ◌∷◌, map, length, take, drop}
use Rattle.wire.specs.message.Message.{Question, Record, Message}
use Rattle.wire.specs.message.Layout.{read, message_at}
use Rattle.wire.specs.declared.message.Layout.{Layout}
use Rattle.own.specs.declared.records.Setup.{Setup}
use Rattle.own.specs.records.Records.{has_record, own_name, own_rdata}
use Rattle.claims.specs.Claims.{held_now, claim_of}
use Rattle.claims.specs.records.Own.{all, own_type, claim_for, carries_data}
use Rattle.claims.specs.records.Sets.{picked}
use Rattle.claims.specs.steps.Tick.{with_last}
use Rattle.claims.specs.declared.records.Claim.{Claim}
use Rattle.claims.specs.declared.records.Own.{Own}
use Rattle.facts.specs.Facts.{is_asked}
use Rattle.responder.specs.Handed.{Arrival}
use Rattle.responder.specs.Calls.{unicast, parcels, unicast_packet, receive_of}
use Rattle.responder.specs.Causes.{is_due}
use Rattle.responder.specs.Runs.{received, sent_by}
use Rattle.responder.specs.declared.State.{State}
use Rattle.causes.specs.Statement.{answers_in, Accepted, stands_in}

abbrev pub one_of : List Question → Bool
one_of [] = false
one_of (q ∷ []) = true
one_of (q ∷ (r ∷ rs)) = false

-- the records of a reply: "Only a query of exactly one question is answered, PTR at once too"; NSEC is not for plain resolvers
unfoldable pub is_replied : State → Message → Own → Bool
is_replied s m o = one_of m.questions && (carries_data o && is_due s m o)

-- the causes for which a record is left out of one: the query has not exactly one question, "the claim is not held", or the question does not ask for it. Neither known
-- answers nor the gaps are among them.
abbrev pub plain_cause : State → Message → Own → Bool
plain_cause s m o = not (one_of m.questions) || (not (held_now (claim_of (claim_for o) s.progress)) || not (is_asked s.setup o m))

-- an own record as a plain resolver gets it: "TTL 10, the records' top class bit clear"
abbrev pub plain_record : Setup → Own → Record
plain_record s o = record { owner = own_name s o; rtype = own_type o; class = 1; ttl = 10; rdata = own_rdata s o }

-- the reply: "its ID and question bytes repeated", and nothing but the records in Answer
abbrev pub plain_reply : State → Message → Question → Message
plain_reply s m q = record {
  id = m.id;
  flags = 0x8400;
  questions = q ∷ [];
  answers = map (plain_record s.setup) (picked (is_replied s m) all);
  authorities = [];
  additionals = [];
}

pub record ExactlyReplied (s : State) (a : Arrival) (m : Message) : Type 0 where
  -- the answers read back from the packet that the call sends are the own records, each whole, that are due, in the specification's order
  pub answers : answers_in (unicast_packet s a) ≡ map (plain_record s.setup) (picked (is_replied s m) all)
  -- so a record that the set-up has is among them exactly where it has no cause
  pub goes : (o : Own) → carries_data o ≡ true → has_record s.setup o ≡ true → stands_in s.setup o (answers_in (unicast_packet s a)) ≡ not (plain_cause s m o)
  -- where there is a record to send, the whole packet is read as the reply
  pub reads : (q : Question) → m.questions ≡ q ∷ [] → picked (is_replied s m) all ≢ [] → (n : Layout) × (message_at (unicast_packet s a) ≡ read n (plain_reply s m q))
  -- and the name in its question has the bytes that lie in the query
  pub question : (q : Question) → m.questions ≡ q ∷ [] → picked (is_replied s m) all ≢ []
      → take (length q.name) (drop 12 (unicast_packet s a)) ≡ take (length q.name) (drop 12 a.packet)
  -- it fits, and goes to where the query came from and to no other
  pub fits : length (unicast_packet s a) ≤ 1268
  pub private : sent_by s (received a) ≡ parcels unicast (unicast_packet s a)
  -- nothing but the last time changes in the state
  pub state : (receive_of s a).state ≡ record { setup = s.setup; progress = with_last a.time s.progress }
  -- "Probes from such a port have no effect on any claim", and the reply "neither starts nor obeys" the gaps: no claim moves, and no time of a multicast
  pub claims : (k : Claim) → claim_of k (receive_of s a).state.progress ≡ claim_of k s.progress
  pub multicasts : (receive_of s a).state.progress.sent ≡ s.progress.sent

-- `replied-exactly`: of every state, every packet from another port and every call that is not refused
abbrev pub RepliedExactly : Type 0
RepliedExactly = (s : State) (a : Arrival) (l : Layout) (m : Message) → Accepted s a l m → a.port ≢ 5353 → ExactlyReplied s a m
