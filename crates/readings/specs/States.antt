-- States handed in that no call returns, and times at their limits: one table, evaluated by a single statement over the definitions that the contracts
-- of `responder` and `claims` cite. Assumes nothing.
use Rattle.std.specs.Prelude.{ℕ, ◌≡◌, refl, Bool, true, false, List, [], ◌∷◌, Option, Some, None}
use Rattle.wire.specs.rdata.Rdata.{strings_fill}
use Rattle.wire.specs.expansion.Equal.{same_bytes}
use Rattle.wire.specs.message.Layout.{list_from, and_then, message_at}
use Rattle.own.specs.utf8.Utf8 as utf8
use Rattle.own.specs.records.Setups.{label_fits, instance_fits, is_letter, is_name_byte, all_name_bytes, some_letter, hyphens_apart, service_rule, service_fits, protocol_fits, domain_fits, txt_fits, valid_setup}
use Rattle.claims.specs.Refusals.{multicasts_kept, holds_kept, kept, wrong_time}
use Rattle.claims.specs.records.Own.{has}
use Rattle.claims.specs.records.Sets.{no_record, only, some_of, every_of, at_once}
use Rattle.claims.specs.Time.{never_sent, marked_all}
use Rattle.claims.specs.declared.records.Own.TheVariants.{A}
use Rattle.claims.specs.declared.records.Set.{Set}
use Rattle.claims.specs.declared.ClaimState.{ClaimState}
use Rattle.claims.specs.declared.ClaimState.TheVariants.{Waiting, Held}
use Rattle.claims.specs.declared.Multicasts.{Multicasts}
use Rattle.claims.specs.declared.Progress.{Progress}
use Rattle.claims.specs.declared.answers.Facts.{Facts}
use Rattle.claims.specs.answers.Answers.{asks_of, wanted_of, asked_by, multicast_asks, unicast_asks, joined, judged_of}
use Rattle.claims.specs.answers.Held.{to_hold, held_back, receive_of}
use Rattle.claims.specs.declared.answers.Coming.{Coming}
use Rattle.claims.specs.holds.Holds.{no_holds, with_hold, some_from, some_free, union, knowing, knowing_all, queued}
use Rattle.claims.specs.declared.holds.Holds.{Holds}
use Rattle.claims.specs.declared.holds.Place.TheVariants.{Second}
use Rattle.responder.specs.declared.State.{State}
use Rattle.responder.specs.Handed.{Arrival, Tick}
use Rattle.responder.specs.Refusals.{wrong_state, start_refusal, receive_refusal, tick_refusal}
use Rattle.readings.specs.Examples.{example, somewhere}

-- 2^62
abbrev pub latest : ℕ
latest = 4611686018427387904

-- the last multicasts of a responder that has multicast A alone, or nothing
abbrev pub last_a : Option ℕ → Multicasts
last_a None = never_sent
last_a (Some time) = marked_all (only A) never_sent time

-- The specification's example with a host claim, a last multicast of A, a PTR reply, held queries, a start draw and a last time
abbrev pub lived_with : ClaimState → Option ℕ → Option ℕ → Holds → ℕ → ℕ → Progress
lived_with host a reply holds draw last = record {
  instance = Held;
  host = host;
  sent = last_a a;
  reply = reply;
  holds = holds;
  updated = None;
  draw = draw;
  last = last;
}

abbrev pub lived : ClaimState → Option ℕ → Option ℕ → ℕ → ℕ → Progress
lived host a reply draw last = lived_with host a reply no_holds draw last

-- with a query from an address held at the second place, which asks for A
abbrev pub held : Option ℕ → Holds
held due = with_hold Second (record { from = somewhere; due = due; asked = only A; known = no_record }) no_holds

abbrev pub handed : ClaimState → Option ℕ → Option ℕ → ℕ → ℕ → State
handed host a reply draw last = record { setup = example; progress = lived host a reply draw last }

-- a query that asks for A alone, of which some question is without the unicast bit or none; `probe` where it is a probe for the host's name, with our own data
abbrev pub asks_for : Set → Bool → Facts
asks_for qm probe = record {
  response = false;
  truncated = false;
  asked = only A;
  qm = qm;
  known = no_record;
  instance = record { probe = false; later = false; conflict = false };
  host = record { probe = probe; later = false; conflict = false };
}

-- without the bit, and with it
abbrev pub asks_a : Bool → Facts
asks_a probe = asks_for (only A) probe

abbrev pub wants_a : Bool → Facts
wants_a probe = asks_for no_record probe

-- a query with no question and no record
abbrev pub bare : List ℕ
bare = 0 ∷ (0 ∷ (0 ∷ (0 ∷ (0 ∷ (0 ∷ (0 ∷ (0 ∷ (0 ∷ (0 ∷ (0 ∷ (0 ∷ [])))))))))))

-- a response with neither
abbrev pub bare_response : List ℕ
bare_response = 0 ∷ (0 ∷ (0x84 ∷ (0 ∷ (0 ∷ (0 ∷ (0 ∷ (0 ∷ (0 ∷ (0 ∷ (0 ∷ (0 ∷ [])))))))))))

-- a tick at a time, and a packet that comes at 0 ms from a port with a draw; both with an out buffer of so many bytes for what goes to all
abbrev pub tick_at : ℕ → ℕ → Tick
tick_at time room = record { time = time; room = room }

abbrev pub from_with : ℕ → ℕ → ℕ → List ℕ → ℕ → Arrival
from_with port draw hold packet room =
    record { time = 0; from = somewhere; port = port; draw = draw; hold = hold; packet = packet; room = room; unicastroom = 1452 }

abbrev pub from : ℕ → ℕ → List ℕ → ℕ → Arrival
from port draw packet room = from_with port draw 400 packet room

-- what comes with a packet at a time
abbrev pub coming : ℕ → Coming
coming now = record { now = now; from = somewhere; draw = 20; hold = 400 }

abbrev pub HandedIn : Type 0
HandedIn =
    -- "a time kept in the state above 2^62 + 2,000": a due time, a last multicast, a PTR reply at the limit, and 1 ms past it
    (tick_refusal (handed (Waiting 4611686018427389904) None None 0 0) (tick_at 0 1452) ≡ 0)
    × (tick_refusal (handed (Waiting 4611686018427389905) None None 0 0) (tick_at 0 1452) ≡ 1)
    × (tick_refusal (handed Held (Some 4611686018427389904) None 0 0) (tick_at 0 1452) ≡ 0)
    × (tick_refusal (handed Held (Some 4611686018427389905) None 0 0) (tick_at 0 1452) ≡ 1)
    × (receive_refusal (handed Held None (Some 4611686018427389904) 0 0) (from 5353 20 bare 1452) ≡ 0)
    × (receive_refusal (handed Held None (Some 4611686018427389905) 0 0) (from 5353 20 bare 1452) ≡ 1)
    × (tick_refusal (record { setup = example; progress = lived_with Held None None (held (Some 4611686018427389904)) 0 0 }) (tick_at 0 1452) ≡ 0)
    × (tick_refusal (record { setup = example; progress = lived_with Held None None (held (Some 4611686018427389905)) 0 0 }) (tick_at 0 1452) ≡ 1)
    -- "for 400 to 500 ms (a new draw, refusal 2 outside)": both draws are tested
    × (receive_refusal (handed Held None None 0 0) (from_with 5353 20 399 bare 1452) ≡ 2)
    × (receive_refusal (handed Held None None 0 0) (from_with 5353 20 400 bare 1452) ≡ 0)
    × (receive_refusal (handed Held None None 0 0) (from_with 5353 120 500 bare 1452) ≡ 0)
    × (receive_refusal (handed Held None None 0 0) (from_with 5353 120 501 bare 1452) ≡ 2)
    × (receive_refusal (handed Held None None 0 0) (from_with 5353 19 400 bare 1452) ≡ 2)
    -- "a kept start draw is above 250", after 1, 2 and 3
    × (tick_refusal (handed Held None None 250 0) (tick_at 0 1452) ≡ 0)
    × (tick_refusal (handed Held None None 251 0) (tick_at 0 1452) ≡ 7)
    × (tick_refusal (handed Held None None 251 0) (tick_at 0 1451) ≡ 3)
    × (tick_refusal (handed Held None None 251 1) (tick_at 0 1451) ≡ 1)
    × (receive_refusal (handed Held None None 251 0) (from 5353 20 bare 1452) ≡ 7)
    × (receive_refusal (handed Held None None 251 0) (from 5353 20 bare_response 1452) ≡ 7)
    -- a response comes from port 5353, a query from any
    × (receive_refusal (handed Held None None 251 0) (from 5354 20 bare_response 1452) ≡ 5)
    × (receive_refusal (handed Held None None 251 0) (from 5354 20 bare 1452) ≡ 7)
    × (receive_refusal (handed Held None None 251 0) (from 5354 20 [] 1452) ≡ 4)
    × (receive_refusal (handed Held None None 251 0) (from 5354 121 [] 1451) ≡ 2)
    -- "time above 2^62, or before the state's last time"
    × (start_refusal example 0 0 ≡ 0)
    × (start_refusal example latest 250 ≡ 0)
    × (start_refusal example 4611686018427387905 251 ≡ 1)
    × (tick_refusal (handed Held None None 0 latest) (tick_at latest 1452) ≡ 0)
    × (tick_refusal (handed Held None None 0 latest) (tick_at 4611686018427387905 1452) ≡ 1)
    × (tick_refusal (handed Held None None 0 latest) (tick_at 4611686018427387903 1452) ≡ 1)
    -- "A kept time ahead of now counts as 0 ms ago": A multicast at 5,000 is not sent at 4,000, nor to a probe, all without the unicast bit
    × (has A (receive_of (lived Held (Some 5000) None 0 0) (coming 4000) (asks_a false) false).answers ≡ false)
    × (has A (receive_of (lived Held (Some 5000) None 0 0) (coming 4000) (asks_a true) false).answers ≡ false)
    × (has A (receive_of (lived Held (Some 5000) None 0 0) (coming 5249) (asks_a true) false).answers ≡ false)
    × (has A (receive_of (lived Held (Some 5000) None 0 0) (coming 5250) (asks_a true) false).answers ≡ true)
    × (has A (receive_of (lived Held (Some 5000) None 0 0) (coming 5999) (asks_a false) false).answers ≡ false)
    × (has A (receive_of (lived Held (Some 5000) None 0 0) (coming 6000) (asks_a false) false).answers ≡ true)

pub handed-in : HandedIn
unfolding example tick_refusal receive_refusal start_refusal wrong_state wrong_time kept multicasts_kept holds_kept valid_setup label_fits instance_fits utf8.is_shown utf8.shown_from utf8.may_stand utf8.behind utf8.starts utf8.following utf8.within is_letter is_name_byte all_name_bytes some_letter hyphens_apart service_rule service_fits protocol_fits domain_fits txt_fits strings_fill same_bytes message_at and_then list_from receive_of to_hold held_back judged_of joined asked_by multicast_asks unicast_asks asks_of some_from some_free some_of union knowing knowing_all queued wanted_of only marked_all at_once every_of
handed-in = (refl, refl, refl, refl, refl, refl, refl, refl, refl, refl, refl, refl, refl, refl, refl, refl, refl, refl, refl, refl, refl, refl, refl, refl, refl, refl, refl, refl, refl, refl, refl, refl, refl, refl, refl)
