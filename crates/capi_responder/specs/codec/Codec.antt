-- A responder's state and its bytes. Assumes nothing: these are definitions.
use Rattle.std.specs.Prelude.{ℕ, ◌/◌, ◌%◌, ◌≡◌, Bool, true, false, cond, ◌&&◌, List, [], ◌∷◌, ◌++◌, map, length, take, drop, eqb, Option, Some, None}
use Rattle.own.specs.declared.records.Label.{Label}
use Rattle.own.specs.declared.records.Service.{Service}
use Rattle.own.specs.declared.records.Strings.{Strings}
use Rattle.own.specs.declared.records.Setup.{Setup}
use Rattle.claims.specs.records.Own.{all, records, has}
use Rattle.claims.specs.Time.{sent_of}
use Rattle.claims.specs.declared.records.Own.{Own}
use Rattle.claims.specs.declared.records.Set.{Set}
use Rattle.claims.specs.declared.ClaimState.{ClaimState}
use Rattle.claims.specs.declared.ClaimState.TheVariants.{Waiting, Probing1, Probing2, Probing3, Deferred, Announced, Held, Lost}
use Rattle.claims.specs.declared.Multicasts.{Multicasts}
use Rattle.claims.specs.declared.holds.Hold.{Hold}
use Rattle.claims.specs.declared.holds.Holds.{Holds}
use Rattle.claims.specs.declared.Progress.{Progress}
use Rattle.responder.specs.declared.State.{State}
use Rattle.responder.specs.Calls.{blank}
use Rattle.capi_responder.specs.codec.Numbers.{bytes64, Fits64}
use Rattle.capi_responder.specs.codec.Layout as layout
use Rattle.capi_responder.specs.codec.Parts.{setup_at, progress_at}

-- ---- from bytes

-- The set-up of a buffer; one of another length reads as a set-up that every start refuses, as 7.
unfoldable pub setup_of : List ℕ → Setup
setup_of b = cond (eqb (length b) layout.setup_size) (setup_at b) blank.setup

-- The state of a buffer; one of another length reads as the blank state, which every call refuses, as 7.
unfoldable pub decode : List ℕ → State
decode b = cond (eqb (length b) layout.state_size) (record { setup = setup_at b; progress = progress_at b }) blank

-- ---- to bytes

abbrev pub claim_tag : ClaimState → ℕ
claim_tag (Waiting due) = 0
claim_tag (Probing1 due) = 1
claim_tag (Probing2 due) = 2
claim_tag (Probing3 due) = 3
claim_tag (Deferred due) = 4
claim_tag (Announced due) = 5
claim_tag Held = 6
claim_tag Lost = 7

abbrev pub claim_due : ClaimState → ℕ
claim_due (Waiting due) = due
claim_due (Probing1 due) = due
claim_due (Probing2 due) = due
claim_due (Probing3 due) = due
claim_due (Deferred due) = due
claim_due (Announced due) = due
claim_due Held = 0
claim_due Lost = 0

abbrev pub when_flag : Option ℕ → ℕ
when_flag None = 0
when_flag (Some time) = 1

abbrev pub when_time : Option ℕ → ℕ
when_time None = 0
when_time (Some time) = time

-- a case byte and its number
abbrev pub case_bytes : ℕ → ℕ → List ℕ
case_bytes tag n = tag ∷ bytes64 n

abbrev pub claim_bytes : ClaimState → List ℕ
claim_bytes c = case_bytes (claim_tag c) (claim_due c)

abbrev pub when_bytes : Option ℕ → List ℕ
when_bytes w = case_bytes (when_flag w) (when_time w)

-- the last multicasts of some records, one behind the other
unfoldable pub last_bytes : Multicasts → List Own → List ℕ
last_bytes sent [] = []
last_bytes sent (o ∷ os) = when_bytes (sent_of o sent) ++ last_bytes sent os

unfoldable pub multicasts_bytes : Multicasts → List ℕ
multicasts_bytes sent = last_bytes sent all

abbrev pub flag_byte : Bool → ℕ
flag_byte true = 1
flag_byte false = 0

-- a flag for each own record
unfoldable pub set_bytes : Set → List ℕ
set_bytes set = map (λ o. flag_byte (has o set)) all

unfoldable pub hold_bytes : Hold → List ℕ
hold_bytes h =
    bytes64 h.from.high
    ++ (bytes64 h.from.low
    ++ (when_bytes h.due
    ++ (set_bytes h.asked
    ++ set_bytes h.known)))

unfoldable pub holds_bytes : Holds → List ℕ
holds_bytes holds = hold_bytes holds.first ++ (hold_bytes holds.second ++ (hold_bytes holds.third ++ hold_bytes holds.fourth))

unfoldable pub progress_bytes : Progress → List ℕ
progress_bytes progress =
    claim_bytes progress.instance
    ++ (claim_bytes progress.host
    ++ (multicasts_bytes progress.sent
    ++ (when_bytes progress.reply
    ++ (when_bytes progress.updated
    ++ (holds_bytes progress.holds
    ++ (bytes64 progress.draw
    ++ bytes64 progress.last))))))

-- Every number fits its eight bytes, as any number of 64 bits does; and the array has its length, as those of every program have.
pub record MulticastsFit (sent : Multicasts) : Type 0 where
  pub sized : length sent.of ≡ records
  pub times : (o : Own) → Fits64 (when_time (sent_of o sent))

pub record HoldFits (h : Hold) : Type 0 where
  pub high : Fits64 h.from.high
  pub low : Fits64 h.from.low
  pub due : Fits64 (when_time h.due)

pub record HoldsFit (holds : Holds) : Type 0 where
  pub first : HoldFits holds.first
  pub second : HoldFits holds.second
  pub third : HoldFits holds.third
  pub fourth : HoldFits holds.fourth

pub record ProgressFits (progress : Progress) : Type 0 where
  pub instance : Fits64 (claim_due progress.instance)
  pub host : Fits64 (claim_due progress.host)
  pub sent : MulticastsFit progress.sent
  pub reply : Fits64 (when_time progress.reply)
  pub holds : HoldsFit progress.holds
  pub updated : Fits64 (when_time progress.updated)
  pub draw : Fits64 progress.draw
  pub last : Fits64 progress.last

-- The bytes of a state after what changes has become `progress`: those of the set-up stay. A buffer of another length stays whole.
unfoldable pub with_progress : List ℕ → Progress → List ℕ
with_progress b progress = cond (eqb (length b) layout.state_size) (take layout.setup_size b ++ progress_bytes progress) b

-- The bytes of a state after the time of the last call alone has become `time`.
unfoldable pub with_time : List ℕ → ℕ → List ℕ
with_time b time = cond (eqb (length b) layout.state_size) (take layout.last b ++ bytes64 time) b

-- What those bytes say: the set-up as it was, with `progress`.
unfoldable pub state_with : List ℕ → Progress → State
state_with b progress = cond (eqb (length b) layout.state_size) (record { setup = setup_at b; progress = progress }) blank

-- The bytes of a state after a set-up was laid over its front.
unfoldable pub with_setup : List ℕ → List ℕ → List ℕ
with_setup b setup = cond (eqb (length b) layout.state_size && eqb (length setup) layout.setup_size) (setup ++ drop layout.setup_size b) b

-- ---- a whole state

abbrev pub label_bytes : Label → List ℕ
label_bytes l = l.bytes ++ (l.len ∷ [])

abbrev pub service_bytes : Service → List ℕ
service_bytes l = l.bytes ++ (l.len ∷ [])

-- a number of 16 bits
abbrev pub bytes16 : ℕ → List ℕ
bytes16 n = n / 256 ∷ n % 256 ∷ []

abbrev pub strings_bytes : Strings → List ℕ
strings_bytes t = t.bytes ++ bytes16 t.len

unfoldable pub setup_bytes : Setup → List ℕ
setup_bytes s =
    label_bytes s.instance
    ++ (service_bytes s.service
    ++ (s.protocol
    ++ (label_bytes s.host
    ++ (s.domain
    ++ (bytes16 s.port
    ++ (strings_bytes s.txt
    ++ (s.a
    ++ (flag_byte s.hasaaaa ∷ s.aaaa))))))))

-- The bytes of a state, where its lengths are below 256, that of its TXT below 65,536.
unfoldable pub encode : State → List ℕ
encode s = setup_bytes s.setup ++ progress_bytes s.progress

-- the arrays have their lengths, as those of every set-up in a program have
pub record SetupFits (s : Setup) : Type 0 where
  pub instance : length s.instance.bytes ≡ layout.most_label
  pub service : length s.service.bytes ≡ layout.most_service
  pub protocol : length s.protocol ≡ layout.protocol_size
  pub host : length s.host.bytes ≡ layout.most_label
  pub domain : length s.domain ≡ layout.domain_size
  pub txt : length s.txt.bytes ≡ layout.most_txt
  pub a : length s.a ≡ layout.a_size
  pub aaaa : length s.aaaa ≡ layout.aaaa_size
