-- What the bytes of a state say, part by part: every string of bytes of its length reads as a state. Assumes nothing: these are definitions.
use Rattle.std.specs.Prelude.{ℕ, ◌+◌, ◌%◌, Bool, cond, List, take, drop, eqb, Option, Some, None}
use Rattle.wire.specs.octets.Octets.{byte_at, word16}
use Rattle.own.specs.declared.records.Label.{Label}
use Rattle.own.specs.declared.records.Service.{Service}
use Rattle.own.specs.declared.records.Strings.{Strings}
use Rattle.own.specs.declared.records.Setup.{Setup}
use Rattle.claims.specs.records.Own.{index_of, each}
use Rattle.claims.specs.Time.{each_last}
use Rattle.claims.specs.declared.records.Own.{Own}
use Rattle.claims.specs.declared.records.Set.{Set}
use Rattle.claims.specs.declared.ClaimState.{ClaimState}
use Rattle.claims.specs.declared.ClaimState.TheVariants.{Waiting, Probing1, Probing2, Probing3, Deferred, Announced, Held, Lost}
use Rattle.claims.specs.declared.Multicasts.{Multicasts}
use Rattle.claims.specs.declared.holds.Hold.{Hold}
use Rattle.claims.specs.declared.holds.Holds.{Holds}
use Rattle.claims.specs.declared.Progress.{Progress}
use Rattle.capi_responder.specs.codec.Numbers.{word64}
use Rattle.capi_responder.specs.codec.Layout as layout

-- `n` bytes from an offset on
abbrev pub part_at : List ℕ → ℕ → ℕ → List ℕ
part_at b at n = take n (drop at b)

-- a flag, by its low bit
abbrev pub flag_at : List ℕ → ℕ → Bool
flag_at b at = eqb (byte_at b at % 2) 1

-- ---- the set-up

-- a label of an instance or a host, a service label, and TXT strings: the bytes, and the length behind them
unfoldable pub label_at : List ℕ → ℕ → Label
label_at b at = record { bytes = part_at b at layout.most_label; len = byte_at b (at + layout.most_label) }

unfoldable pub service_at : List ℕ → ℕ → Service
service_at b at = record { bytes = part_at b at layout.most_service; len = byte_at b (at + layout.most_service) }

unfoldable pub strings_at : List ℕ → ℕ → Strings
strings_at b at = record { bytes = part_at b at layout.most_txt; len = word16 b (at + layout.most_txt) }

unfoldable pub setup_at : List ℕ → Setup
setup_at b = record {
  instance = label_at b layout.instance;
  service = service_at b layout.service;
  protocol = part_at b layout.protocol layout.protocol_size;
  host = label_at b layout.host;
  domain = part_at b layout.domain layout.domain_size;
  port = word16 b layout.port;
  txt = strings_at b layout.txt;
  a = part_at b layout.a layout.a_size;
  hasaaaa = flag_at b layout.hasaaaa;
  aaaa = part_at b layout.aaaa layout.aaaa_size;
}

-- ---- what changes: a case byte and a number for each claim, each last multicast, the reply and the last update; the held queries; then the start draw and the time of the
-- last call

-- a claim by its case, where one beyond the last reads as lost
abbrev pub claim_of : ℕ → ℕ → ClaimState
claim_of tag due =
    cond (eqb tag 0) (Waiting due)
    (cond (eqb tag 1) (Probing1 due)
    (cond (eqb tag 2) (Probing2 due)
    (cond (eqb tag 3) (Probing3 due)
    (cond (eqb tag 4) (Deferred due)
    (cond (eqb tag 5) (Announced due)
    (cond (eqb tag 6) Held Lost))))))

unfoldable pub claim_at : List ℕ → ℕ → ClaimState
claim_at b at = claim_of (byte_at b at) (word64 b (at + 1))

-- a time that is set or not, by the case's low bit
unfoldable pub when_at : List ℕ → ℕ → Option ℕ
when_at b at = cond (flag_at b at) (Some (word64 b (at + 1))) None

-- when an own record was last multicast
unfoldable pub sent_at : List ℕ → Own → Option ℕ
sent_at b o = when_at b (layout.multicast (index_of o))

unfoldable pub multicasts_at : List ℕ → Multicasts
multicasts_at b = each_last (sent_at b)

-- a set of own records, a flag for each
unfoldable pub set_at : List ℕ → ℕ → Set
set_at b at = each (λ o. flag_at b (at + index_of o))

-- a held query
unfoldable pub hold_at : List ℕ → ℕ → Hold
hold_at b at = record {
  from = record { high = word64 b at; low = word64 b (layout.low at) };
  due = when_at b (layout.due at);
  asked = set_at b (layout.asked at);
  known = set_at b (layout.known at);
}

unfoldable pub holds_at : List ℕ → Holds
holds_at b = record {
  first = hold_at b (layout.hold 0);
  second = hold_at b (layout.hold 1);
  third = hold_at b (layout.hold 2);
  fourth = hold_at b (layout.hold 3);
}

unfoldable pub progress_at : List ℕ → Progress
progress_at b = record {
  instance = claim_at b layout.instance_claim;
  host = claim_at b layout.host_claim;
  sent = multicasts_at b;
  reply = when_at b layout.reply;
  holds = holds_at b;
  updated = when_at b layout.updated;
  draw = word64 b layout.draw;
  last = word64 b layout.last;
}
