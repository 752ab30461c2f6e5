-- Goodbyes and changed data (specification, 'Stops and updates'; RFC 6762, sections 8.4 and 10.1): what a stop and an update of SRV port or TXT do to the claims
-- and to the held queries, which records go out, and the two refusals of an update. Assumes nothing: these are definitions.
use Rattle.std.specs.Prelude.{ℕ, ◌+◌, Bool, true, false, cond, not, ◌&&◌, ltb, Option, Some, None}
use Rattle.claims.specs.records.Own.{claim_for, present, carries_data, has, each}
use Rattle.claims.specs.records.Sets.{no_record, only}
use Rattle.claims.specs.Time.{announcement_gap, after_ms, marked_all}
use Rattle.claims.specs.Claims.{held_now, claim_of}
use Rattle.claims.specs.declared.ClaimState.{ClaimState}
use Rattle.claims.specs.declared.ClaimState.TheVariants.{Waiting, Probing1, Probing2, Probing3, Deferred, Announced, Held, Lost}
use Rattle.claims.specs.declared.records.Own.{Own}
use Rattle.claims.specs.declared.records.Own.TheVariants as own
use Rattle.claims.specs.declared.records.Set.{Set}
use Rattle.claims.specs.declared.holds.Hold.{Hold}
use Rattle.claims.specs.declared.holds.Holds.{Holds}
use Rattle.claims.specs.declared.Progress.{Progress}
use Rattle.claims.specs.declared.changes.Change.{Change}
use Rattle.claims.specs.declared.changes.Change.TheVariants.{Port, Txt}
use Rattle.claims.specs.declared.changes.Stopped.{Stopped}
use Rattle.claims.specs.declared.changes.Updated.{Updated}

-- ---- a stop

-- "the held claims' records (PTR with the instance's)": those that are announced for a claim that is held
abbrev pub is_parting : Progress → Bool → Own → Bool
is_parting progress aaaa o = held_now (claim_of (claim_for o) progress) && (carries_data o && present o aaaa)

unfoldable pub goodbye_of : Progress → Bool → Set
goodbye_of progress aaaa = each (is_parting progress aaaa)

-- "sends the held records with TTL 0 at once and leaves both claims lost"; "last multicasts are not marked; a set PTR reply and held queries stay"
unfoldable pub stop_of : Progress → ℕ → Bool → Stopped
stop_of progress now aaaa = record {
  progress = record {
    instance = Lost;
    host = Lost;
    sent = progress.sent;
    reply = progress.reply;
    holds = progress.holds;
    updated = progress.updated;
    draw = progress.draw;
    last = now;
  };
  goodbye = goodbye_of progress aaaa;
}

-- ---- an update

-- "an update of SRV port or TXT": the record that it changes, of the instance claim
abbrev pub changed_record : Change → Own
changed_record Port = own.Srv
changed_record Txt = own.Txt

-- "Held: .. the claim's second step falls due anew in 1,000 ms." "Waiting, probing or deferred: back to waiting with the new data, first probe due at now plus
-- its start draw." `again` is now plus the start draw, `second` now plus 1,000.
abbrev pub after_update : ClaimState → ℕ → ℕ → ClaimState
after_update (Waiting was) again second = Waiting again
after_update (Probing1 was) again second = Waiting again
after_update (Probing2 was) again second = Waiting again
after_update (Probing3 was) again second = Waiting again
after_update (Deferred was) again second = Waiting again
after_update (Announced was) again second = Announced second
after_update Held again second = Announced second
after_update Lost again second = Lost

-- "Held: the updated record alone is announced at once, whatever the gaps"
unfoldable pub announced_of : Progress → Change → Set
announced_of progress change = cond (held_now progress.instance) (only (changed_record change)) no_record

-- the records of a set but for those of another
unfoldable pub without : Set → Set → Set
without set gone = each (λ o. has o set && not (has o gone))

-- "Held queries forget what they knew of the record."
abbrev pub forgetting : Own → Hold → Hold
forgetting o h = record { from = h.from; due = h.due; asked = h.asked; known = without h.known (only o) }

unfoldable pub forgetting_all : Own → Holds → Holds
forgetting_all o holds = record {
  first = forgetting o holds.first;
  second = forgetting o holds.second;
  third = forgetting o holds.third;
  fourth = forgetting o holds.fourth;
}

-- the record that is announced "counts as a multicast of it"; "The dock's state gains the time of last update"
unfoldable pub update_of : Progress → ℕ → Change → Updated
update_of progress now change =
    record {
      progress =
          record {
            instance = after_update progress.instance (after_ms now progress.draw) (after_ms now announcement_gap);
            host = progress.host;
            sent = marked_all (announced_of progress change) progress.sent now;
            reply = progress.reply;
            holds = forgetting_all (changed_record change) progress.holds;
            updated = Some now;
            draw = progress.draw;
            last = now;
          };
      announced = announced_of progress change;
    }

-- ---- the refusals of an update

abbrev pub is_lost : ClaimState → Bool
is_lost (Waiting due) = false
is_lost (Probing1 due) = false
is_lost (Probing2 due) = false
is_lost (Probing3 due) = false
is_lost (Deferred due) = false
is_lost (Announced due) = false
is_lost Held = false
is_lost Lost = true

-- 10: "Lost: refusal 10"
abbrev pub lost_to_update : Progress → Bool
lost_to_update progress = is_lost progress.instance

-- 11: "One before the last's time plus 6,000 ms"
abbrev pub update_gap : ℕ
update_gap = 6000

abbrev pub within : ℕ → Option ℕ → ℕ → Bool
within gap None now = false
within gap (Some time) now = ltb now (time + gap)

abbrev pub too_soon : Progress → ℕ → Bool
too_soon progress now = within update_gap progress.updated now
