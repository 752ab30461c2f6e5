-- A tick (specification, 'A claim's life', "A tick walks the due steps, .."). Assumes nothing: these are definitions.
use Rattle.std.specs.Prelude.{ℕ, Bool, false, cond, List, [], ◌∷◌, None}
use Rattle.claims.specs.Time.{due_by, marked_all}
use Rattle.claims.specs.Claims.{held_now, claim_of}
use Rattle.claims.specs.declared.ClaimState.{ClaimState}
use Rattle.claims.specs.declared.records.Claim.{Claim}
use Rattle.claims.specs.declared.records.Claim.TheVariants.{Instance, Host}
use Rattle.claims.specs.declared.Multicasts.{Multicasts}
use Rattle.claims.specs.declared.records.Set.{Set}
use Rattle.claims.specs.declared.records.Own.TheVariants.{Ptr}
use Rattle.claims.specs.declared.Progress.{Progress}
use Rattle.claims.specs.records.Own.{same_claim}
use Rattle.claims.specs.records.Sets.{no_record, only, any_of, records_of, under}
use Rattle.claims.specs.holds.Holds.{no_hold, hold_at, with_hold}
use Rattle.claims.specs.answers.Answers.{asks_of_hold, wanted_of}
use Rattle.claims.specs.declared.holds.Place.{Place}
use Rattle.claims.specs.steps.Steps.{steps, hold_due, more_due, action_of, unsent_of}
use Rattle.claims.specs.declared.steps.Step.{Step}
use Rattle.claims.specs.declared.steps.Step.TheVariants.{OfClaim, PtrReply, OfHold}
use Rattle.claims.specs.declared.steps.Action.{Action}
use Rattle.claims.specs.declared.steps.Action.TheVariants as action
use Rattle.claims.specs.declared.steps.Output.{Output}
use Rattle.claims.specs.declared.steps.Output.TheVariants.{Nothing, Probe, Response}
use Rattle.claims.specs.declared.steps.Turn.{Turn}
use Rattle.claims.specs.declared.steps.Ticked.{Ticked}

-- the progress with one field changed
abbrev pub with_claim : Claim → ClaimState → Progress → Progress
with_claim Instance c progress =
    record {
      instance = c;
      host = progress.host;
      sent = progress.sent;
      reply = progress.reply;
      holds = progress.holds;
      updated = progress.updated;
      draw = progress.draw;
      last = progress.last;
    }
with_claim Host c progress =
    record {
      instance = progress.instance;
      host = c;
      sent = progress.sent;
      reply = progress.reply;
      holds = progress.holds;
      updated = progress.updated;
      draw = progress.draw;
      last = progress.last;
    }

abbrev pub with_sent : Multicasts → Progress → Progress
with_sent sent progress =
    record {
      instance = progress.instance;
      host = progress.host;
      sent = sent;
      reply = progress.reply;
      holds = progress.holds;
      updated = progress.updated;
      draw = progress.draw;
      last = progress.last;
    }

abbrev pub without_reply : Progress → Progress
without_reply progress =
    record {
      instance = progress.instance;
      host = progress.host;
      sent = progress.sent;
      reply = None;
      holds = progress.holds;
      updated = progress.updated;
      draw = progress.draw;
      last = progress.last;
    }

abbrev pub with_last : ℕ → Progress → Progress
with_last now progress =
    record {
      instance = progress.instance;
      host = progress.host;
      sent = progress.sent;
      reply = progress.reply;
      holds = progress.holds;
      updated = progress.updated;
      draw = progress.draw;
      last = now;
    }

-- A set of records goes out in one response, and each is then multicast at `now`; an empty set sends nothing.
unfoldable pub sends : Set → ℕ → Progress → Turn
sends set now progress =
    cond (any_of set) (record { progress = with_sent (marked_all set progress.sent now) progress; output = Response set })
    (record { progress = progress; output = Nothing })

-- A claim's step. The first announcement has "all its records whatever was sent before", the second "those not multicast less than 1,000 ms ago".
-- "Probes sent don't count as multicasts of their records."
unfoldable pub action_turn : Action → Claim → Bool → ℕ → Progress → Turn
action_turn action.Idle k aaaa now progress = record { progress = progress; output = Nothing }
action_turn (action.Probe c) k aaaa now progress = record { progress = with_claim k c progress; output = Probe k }
action_turn (action.Announce c) k aaaa now progress = sends (records_of k aaaa) now (with_claim k c progress)
action_turn (action.Repeat c) k aaaa now progress = sends (unsent_of (records_of k aaaa) progress.sent now) now (with_claim k c progress)

unfoldable pub claim_turn : Claim → Bool → ℕ → Progress → Turn
claim_turn k aaaa now progress = action_turn (action_of (claim_of k progress) now) k aaaa now progress

-- PTR "at its step .. is dropped if the claim is not held or it was multicast less than 1,000 ms ago."
unfoldable pub ptr_reply : ℕ → Progress → Set
ptr_reply now progress = cond (held_now progress.instance) (unsent_of (only Ptr) progress.sent now) no_record

unfoldable pub reply_turn : ℕ → Progress → Turn
reply_turn now progress =
    cond (due_by progress.reply now) (sends (ptr_reply now progress) now (without_reply progress)) (record { progress = progress; output = Nothing })

-- A held query at its step: "Its answers are what it asked for, less causes (a) by what it knows and (b) with 1,000 ms, PTR too, in one packet in 01's order, by
-- the claims as they are then. One with nothing to send is taken and passed. A PTR reply that is set stays set."
abbrev pub without_hold : Place → Progress → Progress
without_hold place progress =
    record {
      instance = progress.instance;
      host = progress.host;
      sent = progress.sent;
      reply = progress.reply;
      holds = with_hold place no_hold progress.holds;
      updated = progress.updated;
      draw = progress.draw;
      last = progress.last;
    }

unfoldable pub hold_answers : Place → Bool → ℕ → Progress → Set
hold_answers place aaaa now progress = wanted_of progress (asks_of_hold (hold_at place progress.holds)) now aaaa

unfoldable pub hold_turn : Place → Bool → ℕ → Progress → Turn
hold_turn place aaaa now progress =
    cond (due_by (hold_due place progress) now) (sends (hold_answers place aaaa now progress) now (without_hold place progress))
    (record { progress = progress; output = Nothing })

unfoldable pub step_turn : Step → Bool → ℕ → Progress → Turn
step_turn (OfClaim claim) aaaa now progress = claim_turn claim aaaa now progress
step_turn PtrReply aaaa now progress = reply_turn now progress
step_turn (OfHold place) aaaa now progress = hold_turn place aaaa now progress

-- "one with nothing to send is taken and passed, the first that sends ends the tick"
abbrev pub or_else : Output → Turn → (Progress → Turn) → Turn
or_else Nothing t next = next t.progress
or_else (Probe k) t next = t
or_else (Response set) t next = t

unfoldable pub walked : List Step → Bool → ℕ → Progress → Turn
walked [] aaaa now progress = record { progress = progress; output = Nothing }
walked (s ∷ ss) aaaa now progress = or_else (step_turn s aaaa now progress).output (step_turn s aaaa now progress) (walked ss aaaa now)

unfoldable pub ended_of : Turn → ℕ → Ticked
ended_of t now = record { progress = with_last now t.progress; output = t.output; more = more_due t.progress now }

-- "A tick walks the due steps, instance, host, then PTR reply", then the held queries
unfoldable pub tick_of : Progress → ℕ → Bool → Ticked
tick_of progress now aaaa = ended_of (walked steps aaaa now progress) now

-- the output is a probe of the claim
abbrev pub probes_for : Claim → Output → Bool
probes_for k Nothing = false
probes_for k (Probe j) = same_claim k j
probes_for k (Response set) = false

-- the output is a probe of the claim, or a response with a record under its name
abbrev pub concerns : Claim → Output → Bool
concerns k Nothing = false
concerns k (Probe j) = same_claim k j
concerns k (Response set) = under k set
