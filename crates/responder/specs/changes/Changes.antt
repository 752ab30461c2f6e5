-- A stop and an update (specification, 'Stops and updates'): refusals, the answer, the state after the call and the packet that it sends. Assumes nothing: these
-- are definitions.
use Rattle.std.specs.Prelude.{ℕ, Bool, cond, not, ◌||◌, List, [], ◌∷◌, ◌≡◌, length, eqb}
use Rattle.wire.specs.refusals.Numbers.{first_refusal, refused_by}
use Rattle.wire.specs.declared.refusals.Refusal.{Refusal}
use Rattle.wire.specs.declared.refusals.Refusal.TheVariants as cause
use Rattle.own.specs.declared.records.Setup.{Setup}
use Rattle.own.specs.records.Setups.{valid_setup}
use Rattle.own.specs.changes.Changes.{NewData, revised, change_of}
use Rattle.claims.specs.Refusals.{wrong_time}
use Rattle.claims.specs.changes.Changes as changes
use Rattle.claims.specs.declared.changes.Change.{Change}
use Rattle.claims.specs.declared.changes.Stopped as goodbyes
use Rattle.claims.specs.declared.changes.Updated as announcements
use Rattle.claims.specs.declared.steps.Output.TheVariants.{Response}
use Rattle.writer.specs.own_packets.Own.{unless_refused, laid_over}
use Rattle.writer.specs.own_packets.Goodbye.{goodbye_packet}
use Rattle.responder.specs.Handed.{Tick}
use Rattle.responder.specs.Refusals.{small_buffer, wrong_state, tick_tests, tick_refusal}
use Rattle.responder.specs.Calls.{refusal_of, length_of, answer_of, state_of, packet_for}
use Rattle.responder.specs.declared.State.{State}
use Rattle.responder.specs.declared.changes.Stopped.{Stopped}
use Rattle.responder.specs.declared.changes.Updated.{Updated}

-- ---- a stop, which is handed what a tick is, and is refused as one: 1, 3, 7

-- what a stop does to the claims, and to which records it says goodbye
abbrev pub ended_of : State → ℕ → goodbyes.Stopped
ended_of s time = changes.stop_of s.progress time s.setup.hasaaaa

-- "sends the held records with TTL 0 at once"
unfoldable pub stopped_packet : State → Tick → List ℕ
stopped_packet s t = unless_refused (tick_refusal s t) (goodbye_packet s.setup (ended_of s t.time).goodbye)

unfoldable pub stop_of : State → Tick → Stopped
stop_of s t = record {
  answer = answer_of (refused_by (tick_tests s t)) (stopped_packet s t) [];
  state = state_of (tick_refusal s t) s (ended_of s t.time).progress;
}

-- what `stop` gives, over an out buffer
pub record Stops (s : State) (t : Tick) (out : List ℕ) (r : Stopped) (out' : List ℕ) : Type 0 where
  pub answers : r ≡ stop_of s t
  pub writes : out' ≡ laid_over (stopped_packet s t) out
  pub number : refusal_of r.answer ≡ tick_refusal s t
  pub sent : length_of r.answer ≡ length (stopped_packet s t)

-- ---- an update: the time, the length of the out buffer, and the new data

pub record Update : Type 0 where
  pub time : ℕ
  pub room : ℕ
  pub new : NewData

-- "Refusals in the order 1, 3, 7 (state, or new data), 10, 11": new data that break the rules break them in the set-up that would have them
abbrev pub update_tests : State → ℕ → ℕ → Setup → List (Refusal × Bool)
update_tests s time room new =
    (cause.Time, wrong_time s.progress time) ∷ ((cause.Buffer, small_buffer room) ∷ ((cause.Setup, wrong_state s || not (valid_setup new)) ∷
    ((cause.Lost, changes.lost_to_update s.progress) ∷ ((cause.TooSoon, changes.too_soon s.progress time) ∷ []))))

unfoldable pub refusal_to : State → ℕ → ℕ → Setup → ℕ
refusal_to s time room new = first_refusal (update_tests s time room new)

-- what an update does to the claims, and which record it announces
abbrev pub renewed_of : State → ℕ → Change → announcements.Updated
renewed_of s time change = changes.update_of s.progress time change

-- "the updated record alone is announced at once", with the new data
unfoldable pub packet_to : State → ℕ → ℕ → Change → Setup → List ℕ
packet_to s time room change new = unless_refused (refusal_to s time room new) (packet_for new (Response (renewed_of s time change).announced))

-- "a refused one changes nothing"
unfoldable pub update_to : State → ℕ → ℕ → Change → Setup → Updated
update_to s time room change new = record {
  answer = answer_of (refused_by (update_tests s time room new)) (packet_to s time room change new) [];
  state = cond (eqb (refusal_to s time room new) 0) (record { setup = new; progress = (renewed_of s time change).progress }) s;
}

-- the same by the new data
unfoldable pub update_refusal : State → Update → ℕ
update_refusal s u = refusal_to s u.time u.room (revised s.setup u.new)

unfoldable pub updated_packet : State → Update → List ℕ
updated_packet s u = packet_to s u.time u.room (change_of u.new) (revised s.setup u.new)

unfoldable pub update_of : State → Update → Updated
update_of s u = update_to s u.time u.room (change_of u.new) (revised s.setup u.new)

-- what an update to a set-up gives, over an out buffer
pub record UpdatesTo (s : State) (time : ℕ) (change : Change) (new : Setup) (out : List ℕ) (r : Updated) (out' : List ℕ) : Type 0 where
  pub answers : r ≡ update_to s time (length out) change new
  pub writes : out' ≡ laid_over (packet_to s time (length out) change new) out

-- what `update_port` and `update_txt` give
pub record Updates (s : State) (u : Update) (out : List ℕ) (r : Updated) (out' : List ℕ) : Type 0 where
  pub answers : r ≡ update_of s u
  pub writes : out' ≡ laid_over (updated_packet s u) out
  pub number : refusal_of r.answer ≡ update_refusal s u
  pub sent : length_of r.answer ≡ length (updated_packet s u)
