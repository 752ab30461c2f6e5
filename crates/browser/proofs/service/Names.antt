-- The service name, as it is made and as it is used. Assumes nothing.
use mathlib.Core.Path.{◌≡◌, refl, sym, ap, ◌∙◌}
use mathlib.Core.Bool.{Bool, true, false, cond, ◌&&◌}
use mathlib.Core.List.{List, [], ◌∷◌, ◌++◌}
use Prim.Native.Nat.{ℕ, ◌+◌, ◌-◌, ◌≤◌, ◌<◌, min}
use native.Mathlib.Omega.{arith}
use lib.ListN.{length, take, drop, set, replicate, length-append, length-take}
use lib.Seq.{sets, sets-eq, take_all, take_at, length-take-le}
use lib.Dec.{leb, eqb}
use native.Mathlib.Nat.{zero-add}
use borrow.Author.Tests.{leb-true, leb-false, eqb-true}
use mathlib.Mathlib.Data.Bool.Basic.{and-eq-true-eq-eq-true-and-eq-true as both}
use Rattle.wire.proofs.octets.Sets.{sets-append, drop-replicate}
use Rattle.wire.specs.labels.Labels.{encode, none, one}
use Rattle.wire.specs.names.Names.{is_name}
use Rattle.wire.specs.expansion.Equal.{same_bytes}
use Rattle.wire.proofs.labels.Encoded.{is_name_lem}
use Rattle.own.specs.records.Setups.{tcp, udp, local, held, service_rule, service_fits, protocol_fits, domain_fits, service_held, protocol_label}
use Rattle.cache.specs.entries.Entries.{lesser}
use Rattle.browser.specs.declared.Browser.{Browser}
use Rattle.browser.specs.declared.service.ServiceName.{ServiceName}
use Rattle.browser.specs.service.Service.{right_labels, name_labels, service_name, name_of}

-- the lesser of two numbers is std's min
pub min-lesser : (a b : ℕ) → min a b ≡ lesser a b
min-lesser a b = go (leb a b) refl
  where
    go : (t : Bool) → leb a b ≡ t → min a b ≡ cond t a b
    go true e = omega (arith, leb-true a b e)
    go false e = omega (arith, leb-false a b e)

-- the front of a name's bytes
module _ (bs : List ℕ) (r : ServiceName) (e : r ≡ name_of bs) where
  pub name-front : take r.len r.bytes ≡ bs
  name-front = ap (λ (x : ServiceName). take x.len x.bytes) e ∙ take_at bs (replicate (29 - length bs) 0) (length bs) refl

  pub name-long : r.len ≡ length (take r.len r.bytes)
  name-long = ap (λ (x : ServiceName). x.len) e ∙ ap length (sym name-front)

  pub name-fits : r.len ≤ length r.bytes
  name-fits = omega (arith, name-long, length-take r.len r.bytes)

  pub name-size : r.len ≡ length bs
  name-size = ap (λ (x : ServiceName). x.len) e

-- the labels behind the service's
pub udp-ending : (p : List ℕ) (v : Bool) → v ≡ same_bytes p udp → v ≡ true → encode (udp ∷ local ∷ []) ≡ encode (protocol_label p ∷ local ∷ [])
udp-ending p v is t = let e : udp ≡ protocol_label p = sym (simp (sym is ∙ t)) in ap (λ (l : List ℕ). encode (l ∷ local ∷ [])) e

pub tcp-ending : (p : List ℕ) (v : Bool) → v ≡ same_bytes p udp → v ≡ false → encode (tcp ∷ local ∷ []) ≡ encode (protocol_label p ∷ local ∷ [])
tcp-ending p v is t = let e : tcp ≡ protocol_label p = sym (simp (sym is ∙ t)) in ap (λ (l : List ℕ). encode (l ∷ local ∷ [])) e

pub ending-twelve : (p : List ℕ) → length (encode (protocol_label p ∷ local ∷ [])) ≡ 12
ending-twelve p = go (same_bytes p udp) refl
  where
    go : (v : Bool) → same_bytes p udp ≡ v → length (encode (protocol_label p ∷ local ∷ [])) ≡ 12
    go true e = ap length (sym (udp-ending p true (sym e) refl))
    go false e = ap length (sym (tcp-ending p false (sym e) refl))

-- the bytes of the service label that count
pub held-few : (len : ℕ) → lesser len 16 ≤ 16
held-few len = go (leb len 16) refl
  where
    go : (t : Bool) → leb len 16 ≡ t → lesser len 16 ≤ 16
    go true e = let h : len ≤ 16 = leb-true len 16 e in rw e h
    go false e = rw e (omega arith)

held_same : (len : ℕ) (label : List ℕ) → length label ≡ 16 → take (lesser len 16) label ≡ take len label
held_same len label sized = go (leb len 16) refl
  where
    go : (t : Bool) → leb len 16 ≡ t → take (lesser len 16) label ≡ take len label
    go true e = rw e refl
    go false e =
        let h : 16 < len = leb-false len 16 e in
        let m : length label ≤ len = omega arith in
        let k : length label ≤ 16 = omega arith in
        rw e (take_all 16 label k ∙ sym (take_all len label m))

-- the name, part by part, in 29 zeros
pub name-built : (b : Browser) (n : ℕ) (behind : List ℕ) (o₁ o₂ : List ℕ) → length b.service.bytes ≡ 16 → n ≡ lesser b.service.len 16
    → behind ≡ encode (protocol_label b.protocol ∷ local ∷ []) → o₁ ≡ sets (set (replicate 29 0) 0 n) 1 (take n b.service.bytes) → o₂
    ≡ sets o₁ (1 + n) behind
    → ◌≡◌ {A = ServiceName} (record { bytes = o₂; len = 13 + n }) (name_of (service_name b))
unfolding service_name
name-built b n behind o₁ o₂ sized is tail h₁ h₂ = λ i. record { bytes = laid i; len = long i }
  where
    label : List ℕ
    label = b.service.bytes

    few : n ≤ 16
    few = let k = held-few b.service.len in omega (arith, is)

    l_long : length (take n label) ≡ n
    l_long = length-take-le n label (omega (arith, sized, few))

    name : List ℕ
    name = length (service_held b.service) ∷ (service_held b.service ++ encode (protocol_label b.protocol ∷ local ∷ []))

    front : take n label ≡ service_held b.service
    front = ap (λ (k : ℕ). take k label) is ∙ held_same b.service.len label sized

    same : (n ∷ take n label) ++ behind ≡ name
    same =
        ap (λ (k : ℕ). (k ∷ take n label) ++ behind) (sym l_long) ∙ ap (λ (l : List ℕ). (length l ∷ l) ++ behind) front
        ∙ ap (λ (x : List ℕ). length (service_held b.service) ∷ (service_held b.service ++ x)) tail

    long : 13 + n ≡ length name
    long =
        let t : length behind ≡ 12 = ap length tail ∙ ending-twelve b.protocol in
        let w : length ((n ∷ take n label) ++ behind) ≡ length (n ∷ take n label) + length behind = length-append (n ∷ take n label) behind in
        let v = ap length same in omega (arith, l_long)

    laid : o₂ ≡ name ++ replicate (29 - length name) 0
    laid =
        let one_more : 1 + n ≡ 0 + length (n ∷ take n label) = omega (arith, l_long) in
        let zeros : List ℕ = replicate 29 0 in
        let room : 0 + length name ≤ length zeros = omega (arith, few, long) in
        h₂ ∙ ap (λ (o : List ℕ). sets o (1 + n) behind) h₁ ∙ ap (λ (k : ℕ). sets (sets (replicate 29 0) 0 (n ∷ take n label)) k behind) one_more
        ∙ sets-append (replicate 29 0) 0 (n ∷ take n label) behind ∙ ap (sets (replicate 29 0) 0) same ∙ sets-eq name (replicate 29 0) 0 room
        ∙ ap (λ (k : ℕ). name ++ drop k (replicate 29 0)) (zero-add (length name)) ∙ ap (λ (x : List ℕ). name ++ x) (drop-replicate (length name) 29 0)

-- a name whose labels keep the rules is a name
pub service-named : (b : Browser) → right_labels b.service b.protocol b.domain ≡ true → (is_name (service_name b) ≡ true) × (length (service_name b) ≤ 29)
unfolding service_name right_labels service_fits
service-named b ok =
    let f = ((both (held 2 16 b.service.len b.service.bytes && service_rule (service_held b.service))
    (protocol_fits b.protocol && domain_fits b.domain)).0 ok).0 in
    let h = ((both (held 2 16 b.service.len b.service.bytes) (service_rule (service_held b.service))).0 f).0 in
    let two = (both (leb 2 b.service.len && leb b.service.len 16) (eqb (length b.service.bytes) 16)).0 h in
    let ends = (both (leb 2 b.service.len) (leb b.service.len 16)).0 two.0 in
    let least : 2 ≤ b.service.len = leb-true 2 b.service.len ends.0 in
    let most : b.service.len ≤ 16 = leb-true b.service.len 16 ends.1 in
    let sized : length b.service.bytes ≡ 16 = eqb-true _ 16 two.1 in
    let long : length (service_held b.service) ≡ b.service.len = length-take-le b.service.len b.service.bytes (omega arith) in
    let tail = ending-twelve b.protocol in
    let whole = length-append (service_held b.service) (encode (protocol_label b.protocol ∷ local ∷ [])) in
    let short : length (encode (name_labels b.service b.protocol)) ≤ 29 = omega arith in
    let four = protocol-four b.protocol in (
      is_name_lem {ls = name_labels b.service b.protocol} (record {
        labels = one (omega arith) (omega arith) (one (omega (arith, four)) (omega (arith, four)) (one (omega arith) (omega arith) none));
        short = omega arith;
      }),
      short,
    )
  where
    protocol-four : (p : List ℕ) → length (protocol_label p) ≡ 4
    protocol-four p = go (same_bytes p udp)
      where
        go : (v : Bool) → length (cond v udp tcp) ≡ 4
        go true = refl
        go false = refl
