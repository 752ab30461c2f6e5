-- What the private functions that write own records ask for and leave: room for each record with its names whole.
use Rattle.std.specs.Prelude.{ℕ, ◌+◌, ◌≤◌, ◌<◌, ◌≡◌, List, [], ◌∷◌, map, true, cond, length, take}
use Rattle.std.specs.Prelude.{Result, Ok, Err, Option, Some, None, is_some}
use Rattle.wire.specs.names.Names.{is_name}
use Rattle.wire.specs.labels.Counted.{labels_in}
use Rattle.claims.specs.records.Own.{records, record_at, own_type}
use Rattle.claims.specs.declared.records.Own.{Own}
use Rattle.own.specs.declared.records.Setup.{Setup}
use Rattle.own.specs.records.Setups.{valid_setup}
use Rattle.own.specs.records.Records.{own_name, own_rdata}
use Rattle.writer.specs.declared.Spot.{Spot}
use Rattle.writer.specs.Fit.{form_for}
use Rattle.writer.specs.Writer.{spot_of, labels_for}
use Rattle.writer.specs.declared.own_packets.Picked.{Picked}
use Rattle.writer.specs.declared.own_packets.Style.{Style}
use Rattle.writer.specs.declared.Misfit.{Misfit}

-- each number of the header fits in two bytes
pub record HeaderReady (id flags questions answers authorities : ℕ) (out : List ℕ) : Type 0 where
  pub room : 12 ≤ length out
  pub id_small : id < 65536
  pub flags_small : flags < 65536
  pub questions_small : questions < 65536
  pub answers_small : answers < 65536
  pub authorities_small : authorities < 65536

-- where a packet ends after something was to be put behind it: where it did before, if it was not
abbrev pub spot_after : Result Spot Misfit → ℕ → ℕ → Spot
spot_after (Ok spot) at count = spot
spot_after (Err misfit) at count = spot_of at count

-- the bytes and the labels of an own record, its names whole
abbrev pub size_of : Setup → Own → ℕ
size_of s o = length (own_name s o) + 10 + length (own_rdata s o)

abbrev pub labels_of : Setup → Own → ℕ
labels_of s o = labels_in (own_name s o) + labels_for (form_for (own_name s o) (own_type o) (own_rdata s o)) (own_rdata s o)

-- those of a list of records
unfoldable pub sizes : Setup → List Own → ℕ
sizes s [] = 0
sizes s (o ∷ os) = size_of s o + sizes s os

unfoldable pub label_counts : Setup → List Own → ℕ
label_counts s [] = 0
label_counts s (o ∷ os) = labels_of s o + label_counts s os

-- every TTL of a style is one that counts
pub data TtlSmall : Option ℕ → Type 0 where
  each : TtlSmall None
  fixed : {ttl : ℕ} → ttl < 2147483648 → TtlSmall (Some ttl)

-- a style in which records are sent with no question
pub record AnswerStyle (style : Style) : Type 0 where
  pub unasked : style.asks ≡ None
  pub counts : TtlSmall style.ttl

pub record OwnReady (s : Setup) (style : Style) (o : Own) (at count : ℕ) (out places : List ℕ) : Type 0 where
  pub ok : valid_setup s ≡ true
  pub counts : TtlSmall style.ttl
  pub room : at + size_of s o ≤ length out
  pub small : at + size_of s o ≤ 16384
  pub slots : count + labels_of s o ≤ length places

pub record ListReady (s : Setup) (style : Style) (os : List Own) (at count : ℕ) (out places : List ℕ) : Type 0 where
  pub ok : valid_setup s ≡ true
  pub counts : TtlSmall style.ttl
  pub room : at + sizes s os ≤ length out
  pub small : at + sizes s os ≤ 16384
  pub slots : count + label_counts s os ≤ length places

-- what the question takes, if there is one
abbrev pub asked_size : Style → List ℕ → ℕ
asked_size style name = cond (is_some style.asks) (length name + 4) 0

abbrev pub asked_labels : Style → List ℕ → ℕ
asked_labels style name = cond (is_some style.asks) (labels_in name) 0

pub record AskReady (style : Style) (name out places : List ℕ) : Type 0 where
  pub named : is_some style.asks ≡ true → is_name name ≡ true
  pub room : 12 + asked_size style name ≤ length out
  pub small : asked_size style name ≤ 16372
  pub slots : asked_labels style name ≤ length places

-- how many offsets are noted in a packet at most
abbrev pub most_places : ℕ
most_places = 148

pub record PacketReady (s : Setup) (style : Style) (name : List ℕ) (os : List Own) (out : List ℕ) : Type 0 where
  pub ok : valid_setup s ≡ true
  pub named : is_some style.asks ≡ true → is_name name ≡ true
  pub counts : TtlSmall style.ttl
  pub room : 12 + asked_size style name + sizes s os ≤ length out
  pub small : asked_size style name + sizes s os ≤ 16372
  pub slots : asked_labels style name + label_counts s os ≤ most_places

-- the records of the indices
abbrev pub listed : Picked → List Own
listed r = map record_at (take r.n r.order)

pub record Picks (os : List Own) (r : Picked) : Type 0 where
  pub few : r.n ≤ records
  pub those : listed r ≡ os
  pub sized : length r.order ≡ records
