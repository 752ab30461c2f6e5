-- Stops and updates: one table, evaluated by a single statement over the definitions that the contracts of `responder` cite. Assumes nothing.
use Rattle.std.specs.Prelude.{ℕ, ◌≡◌, refl, true, false, [], ◌∷◌, replicate, Option, Some, None}
use Rattle.wire.specs.rdata.Rdata.{strings_fill}
use Rattle.wire.specs.expansion.Equal.{same_bytes}
use Rattle.own.specs.utf8.Utf8 as utf8
use Rattle.own.specs.records.Setups.{label_fits, instance_fits, is_letter, is_name_byte, all_name_bytes, some_letter, hyphens_apart, service_rule, service_fits, protocol_fits, domain_fits, txt_fits, valid_setup}
use Rattle.own.specs.changes.Changes.{NewData, new_port, new_txt}
use Rattle.claims.specs.Refusals.{multicasts_kept, holds_kept, kept, wrong_time}
use Rattle.claims.specs.records.Own.{has}
use Rattle.claims.specs.records.Sets.{no_record, only, every_of}
use Rattle.claims.specs.Time.{never_sent, after_ms, marked_all, sent_of}
use Rattle.claims.specs.changes.Changes as claims
use Rattle.claims.specs.holds.Holds.{no_holds, with_hold, hold_at}
use Rattle.claims.specs.declared.records.Own.TheVariants as own
use Rattle.claims.specs.declared.ClaimState.{ClaimState}
use Rattle.claims.specs.declared.ClaimState.TheVariants.{Waiting, Probing3, Deferred, Announced, Held, Lost}
use Rattle.claims.specs.declared.Progress.{Progress}
use Rattle.claims.specs.declared.changes.Change.TheVariants.{Port, Txt}
use Rattle.claims.specs.declared.holds.Holds.{Holds}
use Rattle.claims.specs.declared.holds.Place.TheVariants.{Second}
use Rattle.responder.specs.declared.State.{State}
use Rattle.responder.specs.Handed.{Tick}
use Rattle.responder.specs.Refusals.{wrong_state, tick_refusal}
use Rattle.responder.specs.changes.Changes.{Update, refusal_to, update_refusal}
use Rattle.readings.specs.Examples.{example, somewhere}

-- a query held at the second place that knows SRV and TXT
abbrev pub knowing : Holds
knowing =
    with_hold Second (record {
      from = somewhere;
      due = Some 450;
      asked = only own.Txt;
      known = record { ptr = false; srv = true; txt = true; a = false; aaaa = false; instancensec = false; hostnsec = false };
    }) no_holds

-- a responder by the state of its instance claim, its last update, its start draw and its last time
abbrev pub progress_of : ClaimState → Option ℕ → ℕ → ℕ → Progress
progress_of c updated draw last = record {
  instance = c;
  host = Held;
  sent = never_sent;
  reply = Some 40;
  holds = knowing;
  updated = updated;
  draw = draw;
  last = last;
}

abbrev pub changing : ClaimState → Option ℕ → ℕ → ℕ → State
changing c updated draw last = record { setup = example; progress = progress_of c updated draw last }

abbrev pub tick_at : ℕ → ℕ → Tick
tick_at time room = record { time = time; room = room }

abbrev pub update : ℕ → ℕ → NewData → Update
update time room new = record { time = time; room = room; new = new }

-- an empty string; a string that is cut short; 400 and 401 bytes of empty strings
abbrev pub empty : NewData
empty = new_txt (0 ∷ [])

abbrev pub cut : NewData
cut = new_txt (2 ∷ 97 ∷ [])

abbrev pub many : ℕ → NewData
many n = new_txt (replicate n 0)

abbrev pub Changed : Type 0
Changed =
    -- "The time of the last update, or none, is a time kept in the state (refusal 1)."
    (tick_refusal (changing Held (Some 4611686018427389904) 0 0) (tick_at 0 1452) ≡ 0)
    × (tick_refusal (changing Held (Some 4611686018427389905) 0 0) (tick_at 0 1452) ≡ 1)
    -- "Refusals in the order 1, 3, 7 (state, or new data), 10, 11"
    × (update_refusal (changing Lost (Some 8) 0 9) (update 8 1451 cut) ≡ 1)
    × (update_refusal (changing Lost (Some 8) 0 8) (update 8 1451 cut) ≡ 3)
    × (update_refusal (changing Lost (Some 8) 0 8) (update 8 1452 cut) ≡ 7)
    × (update_refusal (changing Lost (Some 8) 251 8) (update 8 1452 empty) ≡ 7)
    × (update_refusal (changing Lost (Some 8) 0 8) (update 8 1452 empty) ≡ 10)
    × (update_refusal (changing Held (Some 8) 0 8) (update 8 1452 empty) ≡ 11)
    -- "any that break 01's rules are refusal 7": no bytes, and more than 400
    × (update_refusal (changing Held None 0 0) (update 0 1452 (new_txt [])) ≡ 7)
    × (update_refusal (changing Held None 0 0) (update 0 1452 (many 400)) ≡ 0)
    × (update_refusal (changing Held None 0 0) (update 0 1452 (many 401)) ≡ 7)
    -- "11 where now is before the last update's time plus 6,000, a kept time ahead of now included"
    × (update_refusal (changing Held (Some 8) 0 8) (update 6007 1452 (new_port 9)) ≡ 11)
    × (update_refusal (changing Held (Some 8) 0 8) (update 6008 1452 (new_port 9)) ≡ 0)
    × (update_refusal (changing Held (Some 99) 0 8) (update 9 1452 (new_port 9)) ≡ 11)
    -- "A stop of a responder with both claims lost is accepted."
    × (tick_refusal (changing Lost None 0 0) (tick_at 0 1452) ≡ 0)
    -- "Waiting, probing or deferred: back to waiting with the new data, first probe due at now plus its start draw."
    × ((claims.update_of (progress_of (Waiting 7) None 100 0) 200 Port).progress.instance ≡ Waiting 300)
    × ((claims.update_of (progress_of (Probing3 450) None 100 0) 200 Txt).progress.instance ≡ Waiting 300)
    × ((claims.update_of (progress_of (Deferred 1000) None 0 0) 200 Txt).progress.instance ≡ Waiting 200)
    × ((claims.update_of (progress_of (Deferred 1000) None 0 0) 200 Txt).announced ≡ no_record)
    -- "the second step is due at now plus 1,000, also where it had been taken"
    × ((claims.update_of (progress_of (Announced 450) None 0 0) 200 Port).progress.instance ≡ Announced 1200)
    × ((claims.update_of (progress_of Held None 0 0) 200 Port).progress.instance ≡ Announced 1200)
    × ((claims.update_of (progress_of Held None 0 0) 200 Port).announced ≡ only own.Srv)
    × (sent_of own.Srv (claims.update_of (progress_of Held None 0 0) 200 Port).progress.sent ≡ Some 200)
    × (sent_of own.Txt (claims.update_of (progress_of Held None 0 0) 200 Port).progress.sent ≡ None)
    -- "A set PTR reply stays."
    × ((claims.update_of (progress_of Held None 0 0) 200 Port).progress.reply ≡ Some 40)
    -- "At every update taken, of a claim that is held or not, each held query forgets what it knew of that record."
    × (has own.Srv (hold_at Second (claims.update_of (progress_of Held None 0 0) 200 Port).progress.holds).known ≡ false)
    × (has own.Txt (hold_at Second (claims.update_of (progress_of Held None 0 0) 200 Port).progress.holds).known ≡ true)
    × (has own.Txt (hold_at Second (claims.update_of (progress_of (Waiting 7) None 0 0) 200 Txt).progress.holds).known ≡ false)
    -- a stop leaves a set PTR reply and the held queries
    × ((claims.stop_of (progress_of Held None 0 0) 200 false).progress.reply ≡ Some 40)
    × ((claims.stop_of (progress_of Held None 0 0) 200 false).progress.holds ≡ knowing)
    × (has own.Ptr (claims.stop_of (progress_of Held None 0 0) 200 false).goodbye ≡ true)
    × (has own.Ptr (claims.stop_of (progress_of (Waiting 7) None 0 0) 200 false).goodbye ≡ false)
    × (has own.A (claims.stop_of (progress_of (Waiting 7) None 0 0) 200 false).goodbye ≡ true)
    × (has own.HostNsec (claims.stop_of (progress_of Held None 0 0) 200 false).goodbye ≡ false)

pub changed : Changed
unfolding example tick_refusal update_refusal refusal_to claims.update_of claims.announced_of claims.without claims.forgetting_all claims.stop_of claims.goodbye_of wrong_state wrong_time kept multicasts_kept holds_kept valid_setup label_fits instance_fits utf8.is_shown utf8.shown_from utf8.may_stand utf8.behind utf8.starts utf8.following utf8.within is_letter is_name_byte all_name_bytes some_letter hyphens_apart service_rule service_fits protocol_fits domain_fits txt_fits strings_fill same_bytes only after_ms marked_all every_of
changed = (refl, refl, refl, refl, refl, refl, refl, refl, refl, refl, refl, refl, refl, refl, refl, refl, refl, refl, refl, refl, refl, refl, refl, refl, refl, refl, refl, refl, refl, refl, refl, refl, refl, refl)
