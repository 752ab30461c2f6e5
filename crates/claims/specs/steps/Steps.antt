-- The steps of a claim, of the PTR reply and of the held queries (specification, 'A claim's life'): which is due, what it sends, and the claim after it. Assumes nothing: these
-- are definitions.
use Rattle.std.specs.Prelude.{ℕ, Bool, cond, not, ◌&&◌, List, ◌∷◌, map, get_or, Option}
use Rattle.claims.specs.records.Own.{has, each}
use Rattle.claims.specs.records.Sets.{some_of}
use Rattle.claims.specs.Time.{probe_gap, announcement_gap, multicast_gap, after_ms, due_by, recently, sent_of}
use Rattle.claims.specs.Claims.{due_of, claim_of}
use Rattle.claims.specs.holds.Holds.{places, hold_at}
use Rattle.claims.specs.declared.holds.Place.{Place}
use Rattle.claims.specs.declared.ClaimState.{ClaimState}
use Rattle.claims.specs.declared.ClaimState.TheVariants.{Waiting, Probing1, Probing2, Probing3, Deferred, Announced, Held, Lost}
use Rattle.claims.specs.declared.records.Claim.TheVariants.{Instance, Host}
use Rattle.claims.specs.declared.records.Set.{Set}
use Rattle.claims.specs.declared.Multicasts.{Multicasts}
use Rattle.claims.specs.declared.Progress.{Progress}
use Rattle.claims.specs.declared.steps.Step.{Step}
use Rattle.claims.specs.declared.steps.Step.TheVariants.{OfClaim, PtrReply, OfHold}
use Rattle.claims.specs.declared.steps.Action.{Action}
use Rattle.claims.specs.declared.steps.Action.TheVariants.{Idle, Probe, Announce, Repeat}

-- "instance, host, then PTR reply"; a held query is "a tick's last step, oldest first"
abbrev pub steps : List Step
steps = OfClaim Instance ∷ OfClaim Host ∷ PtrReply ∷ map OfHold places

unfoldable pub step_at : ℕ → Step
step_at i = get_or steps i (OfClaim Instance)

-- when the query that is held at a place is answered
abbrev pub hold_due : Place → Progress → Option ℕ
hold_due place progress = (hold_at place progress.holds).due

-- when a step is due
abbrev pub step_due : Step → Progress → Option ℕ
step_due (OfClaim claim) progress = due_of (claim_of claim progress)
step_due PtrReply progress = progress.reply
step_due (OfHold place) progress = hold_due place progress

abbrev pub claim_due : ClaimState → ℕ → Bool
claim_due c now = due_by (due_of c) now

-- "It says whether more is due."
unfoldable pub more_due : Progress → ℕ → Bool
more_due progress now = some_of (λ s. due_by (step_due s progress) now) steps

-- What the step of a claim does whose step is due. "Probing: three probes, each due 250 ms after the last was sent. 250 ms after the third the claim is held, and
-- that step sends the first announcement, .. A second step, due 1,000 ms later if still held, ..". A waiting or a deferred claim sends its first probe.
abbrev pub taken_action : ClaimState → ℕ → Action
taken_action (Waiting due) now = Probe (Probing1 (after_ms now probe_gap))
taken_action (Probing1 due) now = Probe (Probing2 (after_ms now probe_gap))
taken_action (Probing2 due) now = Probe (Probing3 (after_ms now probe_gap))
taken_action (Probing3 due) now = Announce (Announced (after_ms now announcement_gap))
taken_action (Deferred due) now = Probe (Probing1 (after_ms now probe_gap))
taken_action (Announced due) now = Repeat Held
taken_action Held now = Idle
taken_action Lost now = Idle

unfoldable pub action_of : ClaimState → ℕ → Action
action_of c now = cond (claim_due c now) (taken_action c now) Idle

-- a record that is wanted is sent unless it was multicast less than 1,000 ms ago
abbrev pub unsent : Bool → Option ℕ → ℕ → Bool
unsent wanted last now = wanted && not (recently last now multicast_gap)

-- of a set of records, "those not multicast less than 1,000 ms ago"
unfoldable pub unsent_of : Set → Multicasts → ℕ → Set
unsent_of set sent now = each (λ o. unsent (has o set) (sent_of o sent) now)
