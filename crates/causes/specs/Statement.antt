-- What a packet received brings out of a responder (specification, 'Which answers go out' and 'Held queries'), said of an accepted call: of the message that its
-- bytes are read as, and of the bytes that the call sends, read back; and what a tick sends for a held query. Proved in proofs/Exactly.antt and
-- proofs/Answered.antt under the names that the comments give. Assumes nothing.
use Rattle.std.specs.Prelude.{ℕ, ◌+◌, ◌≤◌, ◌≡◌, ◌≢◌, Bool, true, false, cond, not, ◌&&◌, ◌||◌, List, [], ◌∷◌, ◌++◌, map, eqb, Some}
use Rattle.wire.specs.Lists.{some}
use Rattle.wire.specs.case_folding.Fold.{same_name}
use Rattle.wire.specs.message.Message.{Record, Message, is_response}
use Rattle.wire.specs.message.Layout.{Reads, read, refused, message_at}
use Rattle.wire.specs.declared.message.Layout.{Layout}
use Rattle.claims.specs.records.Own.{all, own_type, claim_for, goes_at_once, has, each}
use Rattle.claims.specs.records.Sets.{picked}
use Rattle.claims.specs.Time.{multicast_gap, recently, sent_of}
use Rattle.claims.specs.Claims.{held_now, claim_of}
use Rattle.claims.specs.holds.Holds.{no_hold, hold_at, held_of, some_from, some_free, knowing}
use Rattle.claims.specs.declared.holds.Hold.{Hold}
use Rattle.claims.specs.declared.holds.Place.{Place}
use Rattle.claims.specs.declared.records.Claim.TheVariants.{Instance, Host}
use Rattle.claims.specs.declared.records.Own.{Own}
use Rattle.claims.specs.declared.records.Own.TheVariants.{Ptr}
use Rattle.claims.specs.answers.Answers.{set_reply}
use Rattle.own.specs.declared.records.Setup.{Setup}
use Rattle.own.specs.records.Records.{has_record, own_name}
use Rattle.facts.specs.probe.Probe.{is_probe}
use Rattle.facts.specs.Facts.{is_asked, is_known, claim_name, is_truncated}
use Rattle.writer.specs.own_packets.Styles.{response_style, own_record}
use Rattle.responder.specs.Handed.{Arrival, Tick}
use Rattle.responder.specs.Refusals.{receive_refusal, tick_refusal}
use Rattle.responder.specs.Calls.{received_packet, unicast_packet, receive_of, ticked_packet, tick_of}
use Rattle.responder.specs.Causes.{is_due, has_cause, is_wanted, is_unicast}
use Rattle.responder.specs.declared.State.{State}

-- the answers that a packet is read as; in none there are none
abbrev pub answers_of : Reads → List Record
answers_of (read l m) = m.answers
answers_of (refused n) = []

abbrev pub answers_in : List ℕ → List Record
answers_in p = answers_of (message_at p)

-- a call that is not refused, and the message that its packet is read as
pub record Accepted (s : State) (a : Arrival) (l : Layout) (m : Message) : Type 0 where
  pub accepted : receive_refusal s a ≡ 0
  pub message : message_at a.packet ≡ read l m

-- "a query with TC, .. that is no probe for either own claim, if no query from that address is held and fewer than four are": it is held, not judged at once
unfoldable pub is_held_back : State → Arrival → Message → Bool
is_held_back s a m =
    not (is_response m.flags)
    && (is_truncated m.flags
    && ((not (is_probe (claim_name s.setup Instance) m) && not (is_probe (claim_name s.setup Host) m))
    && (not (some_from a.from s.progress.holds) && some_free s.progress.holds)))

-- a record is wanted at once
abbrev pub wanted_now : State → Arrival → Message → Own → Bool
wanted_now s a m o = not (is_held_back s a m) && is_wanted s a.time m o

-- the records that go out at once: "SRV, TXT, A, AAAA go out at once in one packet", and NSEC with them
abbrev pub goes_now : State → Arrival → Message → Own → Bool
goes_now s a m o = goes_at_once o && wanted_now s a m o

-- the records that go to the asker, at once: "PTR too"; "A query held .. is answered by multicast"
abbrev pub unicast_now : State → Arrival → Message → Own → Bool
unicast_now s a m o = not (is_held_back s a m) && is_unicast s a.time m o

-- "Unicast answers carry the query's ID": a response of these records
abbrev pub unicast_answer : State → Arrival → Message → Message
unicast_answer s a m = record {
  id = m.id;
  flags = 0x8400;
  questions = [];
  answers = map (own_record s.setup (response_style m.id)) (picked (unicast_now s a m) all);
  authorities = [];
  additionals = [];
}

-- a record goes to all, or to the asker, or is left out for a cause, and never two of these
pub data OneWay (multicast unicast cause : Bool) : Type 0 where
  to_all : multicast ≡ true → unicast ≡ false → OneWay multicast unicast cause
  to_asker : multicast ≡ false → unicast ≡ true → OneWay multicast unicast cause
  left_out : multicast ≡ false → unicast ≡ false → cause ≡ true → OneWay multicast unicast cause

-- what is kept of a query that is held: "what it asked for and knows, for each own record"
abbrev pub kept_of : State → Arrival → Message → Hold
kept_of s a m = record {
  from = a.from;
  due = Some (a.time + a.hold);
  asked = each (λ o. is_asked s.setup o m);
  known = each (λ o. is_known s.setup o m);
}

-- the held queries after a message that is not held: a query "adds the known answers that it carries" to a held one of its address
abbrev pub added_to : State → Arrival → Message → List Hold → List Hold
added_to s a m hs = cond (is_response m.flags) hs (map (knowing a.from (each (λ o. is_known s.setup o m))) hs)

-- a record of the owner and type of an own record stands among some
abbrev pub stands_in : Setup → Own → List Record → Bool
stands_in s o rs = some (λ r. same_name r.owner (own_name s o) && eqb r.rtype (own_type o)) rs

pub record Exactly (s : State) (a : Arrival) (m : Message) : Type 0 where
  -- the answers read back from the packet that the call sends are the own records, each whole, that are due and have no cause, in the specification's order
  pub answers : answers_in (received_packet s a) ≡ map (own_record s.setup (response_style 0)) (picked (goes_now s a m) all)
  -- so a record other than PTR is among them exactly where the message is not held, the record is due and no cause of the specification holds
  pub goes : (o : Own) → goes_at_once o ≡ true → stands_in s.setup o (answers_in (received_packet s a)) ≡ wanted_now s a m o
  -- "PTR is set for a reply at now plus the draw, unless one is already set", exactly where it is due and no cause holds
  pub reply : (receive_of s a).state.progress.reply ≡ set_reply (wanted_now s a m Ptr) s.progress.reply (a.time + a.draw)
  -- the answers read back from the packet that goes to the asker are the own records that are due, asked for by no question without the unicast bit, multicast less
  -- than a quarter of their TTL ago, and not known; the whole packet is read as that answer; and a record is among them exactly so
  pub back : answers_in (unicast_packet s a) ≡ map (own_record s.setup (response_style m.id)) (picked (unicast_now s a m) all)
  pub reads : picked (unicast_now s a m) all ≢ [] → (n : Layout) × (message_at (unicast_packet s a) ≡ read n (unicast_answer s a m))
  pub tells : (o : Own) → stands_in s.setup o (answers_in (unicast_packet s a)) ≡ unicast_now s a m o
  -- of a message that is not held, each record that is due goes one way
  pub one_way : is_held_back s a m ≡ false → (o : Own) → is_due s m o ≡ true → OneWay (wanted_now s a m o) (unicast_now s a m o) (has_cause s a.time m o)
  -- what goes to all counts as multicast then; what goes to the asker does not
  pub marks : (o : Own) → sent_of o (receive_of s a).state.progress.sent ≡ cond (goes_now s a m o) (Some a.time) (sent_of o s.progress.sent)
  -- a message that is held is the last of the held queries; any other is none, and a query's known answers go to those of its address
  pub holds :
      held_of (receive_of s a).state.progress.holds
      ≡ cond (is_held_back s a m) (held_of s.progress.holds ++ (kept_of s a m ∷ [])) (added_to s a m (held_of s.progress.holds))
  -- "for 400 to 500 ms"
  pub soonest : a.time + 400 ≤ a.time + a.hold
  pub latest : a.time + a.hold ≤ a.time + 500

-- `left-out-exactly`: of every state, every packet from port 5353 and every call that is not refused
abbrev pub LeftOutExactly : Type 0
LeftOutExactly = (s : State) (a : Arrival) (l : Layout) (m : Message) → Accepted s a l m → a.port ≡ 5353 → Exactly s a m

-- ---- a held query at its step

-- "Its answers are what it asked for, less causes (a) by what it knows and (b) with 1,000 ms, PTR too, .. by the claims as they are then"
abbrev pub is_wanted_by : State → ℕ → Hold → Own → Bool
is_wanted_by s time h o =
    (held_now (claim_of (claim_for o) s.progress) && (has_record s.setup o && has o h.asked))
    && not (has o h.known || recently (sent_of o s.progress.sent) time multicast_gap)

abbrev pub wanted_by : State → ℕ → Hold → List Own
wanted_by s time h = picked (is_wanted_by s time h) all

-- what a tick does to the query that is held at a place
pub data Step (s : State) (t : Tick) (place : Place) : Type 0 where
  -- it is left as it is
  waits : hold_at place (tick_of s t).state.progress.holds ≡ hold_at place s.progress.holds → Step s t place
  -- it is due, and the tick sends its answers, in one packet
  answered :
      (due : ℕ)
      → (hold_at place s.progress.holds).due ≡ Some due
      → due ≤ t.time
      → hold_at place (tick_of s t).state.progress.holds ≡ no_hold
      → answers_in (ticked_packet s t) ≡ map (own_record s.setup (response_style 0)) (wanted_by s t.time (hold_at place s.progress.holds))
      → Step s t place
  -- "One with nothing to send is taken and passed."
  passed :
      (due : ℕ)
      → (hold_at place s.progress.holds).due ≡ Some due
      → due ≤ t.time
      → hold_at place (tick_of s t).state.progress.holds ≡ no_hold
      → wanted_by s t.time (hold_at place s.progress.holds) ≡ []
      → Step s t place

-- `answered-exactly`: of every state, every tick that is not refused, and every place
abbrev pub AnsweredExactly : Type 0
AnsweredExactly = (s : State) (t : Tick) (place : Place) → tick_refusal s t ≡ 0 → Step s t place
