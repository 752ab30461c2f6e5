-- What a set-up that keeps the rules has: an instance label that a screen can show, own names that are names, of few bytes, different for each kind, and rdata
-- as its type asks. Assumes nothing.
use mathlib.Core.Path.{◌≡◌, refl}
use mathlib.Core.List.{List, [], ◌∷◌}
use mathlib.Core.Bool.{Bool, true, false, cond, ◌&&◌}
use Prim.Native.Nat.{ℕ, ◌<◌, ◌≤◌}
use native.Mathlib.Omega.{arith}
use borrow.Author.Tests.{leb-true, eqb-true}
use lib.ListN.{length, take, length-append}
use lib.Seq.{length-take-le}
use lib.Dec.{leb, eqb}
use mathlib.Mathlib.Data.Bool.Basic.{and-eq-true-eq-eq-true-and-eq-true as both}
use Rattle.wire.specs.case_folding.Fold.{same_name}
use Rattle.wire.specs.names.Names.{is_name}
use Rattle.wire.specs.rdata.Rdata.{strings_fill}
use Rattle.wire.specs.expansion.Equal.{same_bytes}
use Rattle.wire.specs.labels.Labels.{encode, Labels, none, one, IsName}
use Rattle.wire.proofs.labels.Encoded.{is_name_lem, same_count}
use Rattle.claims.specs.declared.records.Own.{Own}
use Rattle.claims.proofs.records.Sets.{by-record}
use Rattle.own.specs.declared.records.Setup.{Setup}
use Rattle.own.specs.utf8.Utf8.{is_shown}
use Rattle.own.specs.utf8.Grammar.{Octets, NoControl}
use Rattle.own.proofs.utf8.Grammar.{shown-exactly}
use Rattle.own.specs.records.Setups.{tcp, udp, local, held, label_fits, instance_fits, service_rule, service_fits, protocol_fits, domain_fits, txt_fits, valid_setup, label_held, service_held, protocol_label, service_labels, instance_labels, host_labels}
use Rattle.own.specs.records.Records.{own_labels, own_name}

-- the facts behind the test
pub record Valid (s : Setup) : Type 0 where
  pub instance : (1 ≤ length (label_held s.instance)) × (length (label_held s.instance) < 64)
  pub shown : is_shown (label_held s.instance) ≡ true
  pub service : (2 ≤ length (service_held s.service)) × (length (service_held s.service) ≤ 16)
  pub host : (1 ≤ length (label_held s.host)) × (length (label_held s.host) < 64)
  pub txt : (1 ≤ length (take s.txt.len s.txt.bytes)) × (length (take s.txt.len s.txt.bytes) ≤ 400)
  pub strings : strings_fill 0 (take s.txt.len s.txt.bytes) ≡ true
  pub four : length s.a ≡ 4
  pub sixteen : length s.aaaa ≡ 16

held-length : (least most len : ℕ) (bytes : List ℕ) → held least most len bytes ≡ true → (least ≤ length (take len bytes)) × (length (take len bytes) ≤ most)
held-length least most len bytes h =
    let f = (both (leb least len && leb len most) (eqb (length bytes) most)).0 h in
    let g = (both (leb least len) (leb len most)).0 f.0 in
    let a : least ≤ len = leb-true _ _ g.0 in
    let b : len ≤ most = leb-true _ _ g.1 in
    let c : length bytes ≡ most = eqb-true _ _ f.1 in
    let d : length (take len bytes) ≡ len = length-take-le len bytes (omega arith) in (omega arith, omega arith)

all : (a b c d e f g h : Bool) → (a && (b && (c && (d && (e && (f && (g && h))))))) ≡ true
    → (a ≡ true) × (b ≡ true) × (d ≡ true) × (f ≡ true) × (g ≡ true) × (h ≡ true)
all a b c d e f g h k =
    let k₁ = (both a (b && (c && (d && (e && (f && (g && h))))))).0 k in
    let k₂ = (both b (c && (d && (e && (f && (g && h)))))).0 k₁.1 in
    let k₃ = (both c (d && (e && (f && (g && h))))).0 k₂.1 in
    let k₄ = (both d (e && (f && (g && h)))).0 k₃.1 in
    let k₅ = (both e (f && (g && h))).0 k₄.1 in
    let k₆ = (both f (g && h)).0 k₅.1 in
    let k₇ = (both g h).0 k₆.1 in (k₁.0, k₂.0, k₄.0, k₆.0, k₇.0, k₇.1)

pub valid : (s : Setup) → valid_setup s ≡ true → Valid s
unfolding valid_setup instance_fits label_fits service_fits txt_fits
valid s h =
    let f =
    all (instance_fits s.instance) (service_fits s.service) (protocol_fits s.protocol) (label_fits s.host) (domain_fits s.domain) (txt_fits s.txt) (eqb (length s.a) 4) (eqb (length s.aaaa) 16) h in
    let l = (both (held 1 63 s.instance.len s.instance.bytes) (is_shown (label_held s.instance))).0 f.0 in
    let i = held-length 1 63 s.instance.len s.instance.bytes l.0 in
    let v = (both (held 2 16 s.service.len s.service.bytes) (service_rule (service_held s.service))).0 f.1 in
    let m = held-length 1 63 s.host.len s.host.bytes f.2 in
    let t = (both (held 1 400 s.txt.len s.txt.bytes) (strings_fill 0 (take s.txt.len s.txt.bytes))).0 f.3 in
    record {
      instance = (i.0, omega (arith, i.1));
      shown = l.1;
      service = held-length 2 16 s.service.len s.service.bytes v.0;
      host = (m.0, omega (arith, m.1));
      txt = held-length 1 400 s.txt.len s.txt.bytes t.0;
      strings = t.1;
      four = eqb-true _ _ f.4;
      sixteen = eqb-true _ _ f.5;
    }

-- its instance label is one that a screen can show, by RFC 3629's grammar
pub shown-label : (s : Setup) → Valid s → Octets (label_held s.instance) × NoControl (label_held s.instance)
shown-label s ok = (shown-exactly (label_held s.instance)).only ok.shown

protocol-four : (p : List ℕ) → length (protocol_label p) ≡ 4
protocol-four p = go (same_bytes p udp)
  where
    go : (b : Bool) → length (cond b udp tcp) ≡ 4
    go true = refl
    go false = refl

local-labels : Labels (local ∷ [])
local-labels = one {l = local} (omega arith) (omega arith) none

-- own names are names, for every set-up that keeps the rules
module _ (s : Setup) (ok : Valid s) where
  pub service-name : IsName (service_labels s)
  unfolding service_labels
  service-name =
      let four = protocol-four s.protocol in
      let lo : 1 ≤ length (service_held s.service) = omega (arith, ok.service.0) in
      let hi : length (service_held s.service) < 64 = omega (arith, ok.service.1) in
      let lo' : 1 ≤ length (protocol_label s.protocol) = omega arith in
      let hi' : length (protocol_label s.protocol) < 64 = omega arith in
      record { labels = one lo hi (one lo' hi' local-labels); short = omega (arith, few) }
    where
      few : length (encode (service_held s.service ∷ protocol_label s.protocol ∷ local ∷ [])) ≤ 29
      few =
          omega
          (arith, ok.service.1, protocol-four s.protocol, length-append (service_held s.service) (encode (protocol_label s.protocol ∷ local ∷ [])), length-append (protocol_label s.protocol) (encode (local ∷ [])))

  pub service-most : length (encode (service_labels s)) ≤ 29
  unfolding service_labels
  service-most =
      omega
      (arith, ok.service.1, protocol-four s.protocol, length-append (service_held s.service) (encode (protocol_label s.protocol ∷ local ∷ [])), length-append (protocol_label s.protocol) (encode (local ∷ [])))

  pub instance-most : length (encode (instance_labels s)) ≤ 93
  unfolding instance_labels
  instance-most = omega (arith, ok.instance.1, service-most, length-append (label_held s.instance) (encode (service_labels s)))

  pub instance-name : IsName (instance_labels s)
  unfolding instance_labels
  instance-name = record { labels = one ok.instance.0 ok.instance.1 service-name.labels; short = omega (arith, instance-most) }

  pub host-most : length (encode (host_labels s)) ≤ 71
  unfolding host_labels
  host-most = omega (arith, ok.host.1, length-append (label_held s.host) (encode (local ∷ [])))

  pub host-name : IsName (host_labels s)
  unfolding host_labels
  host-name = record { labels = one ok.host.0 ok.host.1 local-labels; short = omega (arith, host-most) }

  pub own_labels_lem : (o : Own) → IsName (own_labels s o)
  unfolding own_labels
  own_labels_lem =
      by-record (λ o. IsName (own_labels s o)) service-name instance-name instance-name host-name host-name instance-name host-name

  pub own_is_name : (o : Own) → is_name (own_name s o) ≡ true
  unfolding own_name
  own_is_name o = is_name_lem (own_labels_lem o)

-- names of different kinds have 3, 4 and 2 labels, so they are never equal, whatever the set-ups
module _ (s t : Setup) (oks : Valid s) (okt : Valid t) where
  pub instance-not_host : same_name (encode (instance_labels s)) (encode (host_labels t)) ≡ true → ⊥
  unfolding instance_labels service_labels host_labels
  instance-not_host h = let e : length (instance_labels s) ≡ length (host_labels t) = same_count (instance-name s oks).labels (host-name t okt).labels h in omega arith

  pub host-not_instance : same_name (encode (host_labels s)) (encode (instance_labels t)) ≡ true → ⊥
  unfolding instance_labels service_labels host_labels
  host-not_instance h = let e : length (host_labels s) ≡ length (instance_labels t) = same_count (host-name s oks).labels (instance-name t okt).labels h in omega arith

  pub service-not_instance : same_name (encode (service_labels s)) (encode (instance_labels t)) ≡ true → ⊥
  unfolding instance_labels service_labels
  service-not_instance h = let e : length (service_labels s) ≡ length (instance_labels t) = same_count (service-name s oks).labels (instance-name t okt).labels h in omega arith

  pub instance-not_service : same_name (encode (instance_labels s)) (encode (service_labels t)) ≡ true → ⊥
  unfolding instance_labels service_labels
  instance-not_service h = let e : length (instance_labels s) ≡ length (service_labels t) = same_count (instance-name s oks).labels (service-name t okt).labels h in omega arith

  pub service-not_host : same_name (encode (service_labels s)) (encode (host_labels t)) ≡ true → ⊥
  unfolding service_labels host_labels
  service-not_host h = let e : length (service_labels s) ≡ length (host_labels t) = same_count (service-name s oks).labels (host-name t okt).labels h in omega arith

  pub host-not_service : same_name (encode (host_labels s)) (encode (service_labels t)) ≡ true → ⊥
  unfolding service_labels host_labels
  host-not_service h = let e : length (host_labels s) ≡ length (service_labels t) = same_count (host-name s oks).labels (service-name t okt).labels h in omega arith
