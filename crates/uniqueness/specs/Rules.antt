-- What the proof of demand 3 reads of our responder: what an accepted call does, in messages, and a claim's stage. No part of the statement. Assumes nothing: these are definitions.
use Rattle.std.specs.Prelude.{◌≡◌, true, false, List, [], ◌∷◌, ◌++◌, map, ℕ, ◌≤◌}
use Rattle.std.proofs.Math.Option.{some}
use Rattle.wire.specs.message.Message.{Question, Message, is_response}
use Rattle.own.specs.declared.records.Setup.{Setup}
use Rattle.own.specs.records.Setups.{valid_setup}
use Rattle.own.specs.changes.Changes.{change_of}
use Rattle.claims.specs.changes.Changes.{lost_to_update}
use Rattle.claims.specs.declared.changes.Updated as announcements
use Rattle.claims.specs.Time.{last_time}
use Rattle.claims.specs.Claims as claims
use Rattle.claims.specs.declared.records.Own.{Own}
use Rattle.claims.specs.declared.records.Set.{Set}
use Rattle.claims.specs.declared.ClaimState.{ClaimState}
use Rattle.claims.specs.declared.ClaimState.TheVariants.{Waiting, Probing1, Probing2, Probing3, Deferred, Announced, Held, Lost}
use Rattle.claims.specs.declared.Progress.{Progress}
use Rattle.claims.specs.declared.steps.Output.{Output}
use Rattle.claims.specs.declared.steps.Output.TheVariants.{Nothing, Probe, Response}
use Rattle.claims.specs.answers.Answers as answers
use Rattle.claims.specs.answers.Held as holding
use Rattle.claims.specs.declared.answers.Received as heard
use Rattle.facts.specs.Facts.{facts_of}
use Rattle.writer.specs.own_packets.Styles.{response_style, own_record}
use Rattle.writer.specs.own_packets.Own.{response_records, response_of, probe_of, plain_records, plain_reply_of}
use Rattle.responder.specs.Calls.{walked_of}
use Rattle.responder.specs.changes.Changes.{Update, renewed_of}
use Rattle.responder.specs.declared.State.{State}
use Rattle.link.specs.Responder.{Claim}
use Rattle.link.specs.Laws as law
use Rattle.link.specs.Laws.{Rules, Sent, to_all, Stage, waiting, probing, held, apart}
use Rattle.link.specs.Premises.{Among}
use Rattle.responder.specs.Handed.{Arrival, coming_of}
use Rattle.uniqueness.specs.Responder.{own_claim, back_to, revise, claim_record, responder}

-- the messages of an output, at most one; none where it has no record
abbrev pub unless_empty : List Own → Message → List Message
unless_empty [] m = []
unless_empty (o ∷ os) m = m ∷ []

-- a response with an ID of the records that are chosen and that there are
unfoldable pub response_for : Setup → ℕ → Set → List Message
response_for s id set = unless_empty (response_records s set) (response_of s id set)

unfoldable pub messages_for : Setup → Output → List Message
messages_for s Nothing = []
messages_for s (Probe k) = probe_of s k ∷ []
messages_for s (Response set) = response_for s 0 set

-- the message of a plain reply, where the query has just one question
unfoldable pub replies_for : Setup → Set → ℕ → List Question → List Message
replies_for s set id [] = []
replies_for s set id (q ∷ []) = unless_empty (plain_records s set) (plain_reply_of s set id q)
replies_for s set id (q ∷ (r ∷ rs)) = []

-- to where a packet came from
abbrev pub to_asker : Arrival → Message → Sent Message
to_asker a m = record { to = back_to a; message = m }

-- the state with the progress that a call leaves
abbrev pub with : State → Progress → State
with x progress = record { setup = x.setup; progress = progress }

-- what a message does to a state
abbrev pub told : State → Arrival → Message → heard.Received
told x a m = holding.receive_of x.progress (coming_of a) (facts_of x.setup m) x.setup.hasaaaa

-- what a query from a plain resolver does to it
abbrev pub served : State → Arrival → Message → heard.Received
served x a m = answers.plain_of x.progress a.time (facts_of x.setup m) x.setup.hasaaaa

-- what an update does to it
abbrev pub renewed : State → Update → announcements.Updated
renewed x u = renewed_of x u.time (change_of u.new)

-- what an accepted call leaves, what it sends to all, and all that it sends
abbrev pub progress_of : State → law.Step responder → Progress
progress_of x (law.ticks t) = (walked_of x t.time).progress
progress_of x (law.hears a m) = (told x a m).progress
progress_of x (law.serves a m) = (served x a m).progress
progress_of x (law.updates u) = (renewed x u).progress

abbrev pub output_of : State → law.Step responder → Output
output_of x (law.ticks t) = (walked_of x t.time).output
output_of x (law.hears a m) = Response (told x a m).answers
output_of x (law.serves a m) = Nothing
output_of x (law.updates u) = Response (renewed x u).announced

abbrev pub sent_in : State → law.Step responder → List (Sent Message)
sent_in x (law.ticks t) = map to_all (messages_for x.setup (output_of x (law.ticks t)))
sent_in x (law.hears a m) =
    map to_all (messages_for x.setup (output_of x (law.hears a m))) ++ map (to_asker a) (response_for x.setup m.id (told x a m).unicast)
sent_in x (law.serves a m) = map (to_asker a) (replies_for x.setup (served x a m).unicast m.id m.questions)
sent_in x (law.updates u) = map to_all (messages_for (revise u x.setup) (output_of x (law.updates u)))

abbrev pub step : State → law.Step responder → State × List (Sent Message)
step x c = (record { setup = law.data_after responder c x.setup; progress = progress_of x c }, sent_in x c)

-- a claim's stage
abbrev pub stage_of : ClaimState → Stage
stage_of (Waiting due) = waiting due
stage_of (Probing1 due) = probing 1 due
stage_of (Probing2 due) = probing 2 due
stage_of (Probing3 due) = probing 3 due
stage_of (Deferred due) = apart
stage_of (Announced due) = held
stage_of Held = held
stage_of Lost = apart

abbrev pub claim_at : State → Claim → ClaimState
claim_at x k = claims.claim_of (own_claim k) x.progress

-- the message is a response with the set-up's record of the claim and type
pub record Carried (m : Message) (s : Setup) (k : Claim) (type : ℕ) : Type 0 where
  pub own : Own
  pub owned : claim_record k type ≡ some own
  pub response : is_response m.flags ≡ true
  pub member : Among (own_record s (response_style 0) own) m.answers

-- x is a state with the set-up s, which keeps the rules
pub record Of (x : State) (s : Setup) : Type 0 where
  pub setup : x.setup ≡ s
  pub valid : valid_setup x.setup ≡ true

-- what else an accepted call tells: a message that is heard comes from port 5353; an update's data keep the rules, and the claim is not lost
abbrev pub Fits : State → law.Step responder → Type 0
Fits x (law.ticks t) = Unit {0}
Fits x (law.hears a m) = a.port ≡ 5353
Fits x (law.serves a m) = Unit {0}
Fits x (law.updates u) = (valid_setup (revise u x.setup) ≡ true) × (lost_to_update x.progress ≡ false) × (x.progress.draw ≤ law.most_draw)

-- and the call is not refused as 1
pub record Ready (x : State) (s : Setup) (c : law.Step responder) : Type 0 where
  pub of : Of x s
  pub time : law.time_of responder c ≤ last_time
  pub fits : Fits x c

abbrev pub rules : Rules responder
rules = record {
  step = step;
  Of = Of;
  Ready = Ready;
  Valid = λ s. valid_setup s ≡ true;
  stage = λ x k. stage_of (claim_at x k);
  probe = λ s k. probe_of s (own_claim k);
  Carries = Carried;
}
