-- A run of one responder: packets received, ticks, stops and updates one after the other, refused ones too, each given the state that the last one returned ("its later
-- calls are given the state its last one returned, after a refusal the same again"). Assumes nothing: these are definitions.
use Rattle.std.specs.Prelude.{ℕ, ◌+◌, ◌≤◌, Bool, false, cond, ◌&&◌, eqb, List, [], ◌∷◌, ◌++◌}
use Rattle.claims.specs.declared.records.Claim.{Claim}
use Rattle.claims.specs.declared.records.Claim.TheVariants.{Instance, Host}
use Rattle.claims.specs.steps.Tick.{probes_for}
use Rattle.responder.specs.Handed.{Arrival, Tick}
use Rattle.responder.specs.Refusals.{receive_refusal, tick_refusal}
use Rattle.responder.specs.Calls.{received_packet, unicast_packet, receive_of, walked_of, ticked_packet, tick_of, multicast, unicast, Parcel, parcels}
use Rattle.responder.specs.changes.Changes.{stopped_packet, stop_of, Update, update_refusal, updated_packet, update_of}
use Rattle.responder.specs.declared.State.{State}
use Rattle.responder.specs.declared.Answer.{Answer}

pub data Call : Type 0 where
  received : Arrival → Call
  ticked : Tick → Call
  stopped : Tick → Call
  updated : Update → Call

abbrev pub refusal_of_call : State → Call → ℕ
refusal_of_call s (received a) = receive_refusal s a
refusal_of_call s (ticked t) = tick_refusal s t
refusal_of_call s (stopped t) = tick_refusal s t
refusal_of_call s (updated u) = update_refusal s u

abbrev pub answer_to : State → Call → Answer
answer_to s (received a) = (receive_of s a).answer
answer_to s (ticked t) = (tick_of s t).answer
answer_to s (stopped t) = (stop_of s t).answer
answer_to s (updated u) = (update_of s u).answer

-- whether a tick says that more is due
abbrev pub more_after : State → Call → Bool
more_after s (received a) = false
more_after s (ticked t) = (tick_of s t).more
more_after s (stopped t) = false
more_after s (updated u) = false

-- the state after a call
abbrev pub state_after : State → Call → State
state_after s (received a) = (receive_of s a).state
state_after s (ticked t) = (tick_of s t).state
state_after s (stopped t) = (stop_of s t).state
state_after s (updated u) = (update_of s u).state

-- the packets that a call writes, to all and to the asker, empty where there is none
abbrev pub packet_of : State → Call → List ℕ
packet_of s (received a) = received_packet s a
packet_of s (ticked t) = ticked_packet s t
packet_of s (stopped t) = stopped_packet s t
packet_of s (updated u) = updated_packet s u

abbrev pub unicast_of : State → Call → List ℕ
unicast_of s (received a) = unicast_packet s a
unicast_of s (ticked t) = []
unicast_of s (stopped t) = []
unicast_of s (updated u) = []

-- what a call sends
abbrev pub sent_by : State → Call → List Parcel
sent_by s c = parcels multicast (packet_of s c) ++ parcels unicast (unicast_of s c)

-- the state after a list of calls
abbrev pub run : State → List Call → State
run s [] = s
run s (c ∷ cs) = run (state_after s c) cs

-- ---- the probes of a run

abbrev pub time_of : Call → ℕ
time_of (received a) = a.time
time_of (ticked t) = t.time
time_of (stopped t) = t.time
time_of (updated u) = u.time

-- a call sends a probe of the claim: only a tick does
abbrev pub sends_probe : Claim → State → Call → Bool
sends_probe k s (received a) = false
sends_probe k s (ticked t) = eqb (tick_refusal s t) 0 && probes_for k (walked_of s t.time).output
sends_probe k s (stopped t) = false
sends_probe k s (updated u) = false

-- an update that is taken lets the instance claim begin anew: "back to waiting with the new data, first probe due at now plus its start draw"
abbrev pub renews : Claim → State → Call → Bool
renews k s (received a) = false
renews k s (ticked t) = false
renews k s (stopped t) = false
renews Instance s (updated u) = eqb (update_refusal s u) 0
renews Host s (updated u) = false

-- the times at which a list of calls sends a probe of the claim, and those at which it begins anew
pub data Mark : Type 0 where
  probed : ℕ → Mark
  renewed : ℕ → Mark

abbrev pub marked : Bool → Bool → ℕ → List Mark → List Mark
marked probe new time marks = cond probe (probed time ∷ marks) (cond new (renewed time ∷ marks) marks)

abbrev pub probe_marks : Claim → State → List Call → List Mark
probe_marks k s [] = []
probe_marks k s (c ∷ cs) = marked (sends_probe k s c) (renews k s c) (time_of c) (probe_marks k (state_after s c) cs)

-- probes of which none is before `from`, and each is at least 250 ms after the one before it; where the claim began anew in between, not before that
pub data Spaced : ℕ → List Mark → Type 0 where
  none : {from : ℕ} → Spaced from []
  next : {from time : ℕ} {marks : List Mark} → from ≤ time → Spaced (time + 250) marks → Spaced from (probed time ∷ marks)
  anew : {from time : ℕ} {marks : List Mark} → Spaced time marks → Spaced from (renewed time ∷ marks)
