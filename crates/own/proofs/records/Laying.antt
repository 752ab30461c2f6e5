-- OwnBytes names and rdata written part by part. Assumes nothing.
use mathlib.Core.Path.{◌≡◌, refl, sym, ap, ap₂, ◌∙◌}
use mathlib.Core.List.{List, [], ◌∷◌, ◌++◌, append_assoc}
use mathlib.Core.Bool.{Bool, true, false}
use Prim.Native.Nat.{ℕ, ◌+◌, ◌-◌, ◌/◌, ◌%◌, ◌<◌, ◌≤◌, min}
use native.Mathlib.Nat.{zero-add}
use native.Mathlib.Numerals.{add-one}
use native.Mathlib.Omega.{arith}
use lib.ListN.{length, take, drop, set, replicate, length-append, length-take, length-replicate}
use lib.Seq.{sets, sets-eq}
use Rattle.std.specs.Int.{to_be_bytes}
use Rattle.std.proofs.Common.{w16}
use Rattle.std.proofs.lemmas.List.{take_min}
use Rattle.wire.proofs.octets.Sets.{sets-append, drop-replicate}
use Rattle.wire.specs.labels.Labels.{encode}
use Rattle.wire.specs.expansion.Equal.{same_bytes}
use Rattle.own.specs.declared.records.Setup.{Setup}
use Rattle.own.specs.declared.records.OwnBytes.{OwnBytes}
use Rattle.own.specs.records.Setups.{tcp, udp, local, label_held, service_held, protocol_label, service_labels, instance_labels, host_labels}
use Rattle.own.specs.records.Records.{label_bytes, Laid, own_of, srv_rdata, host_types}

-- one part after the other
pub then : (at a r : ℕ) (xs ys o o₁ o₂ : List ℕ) (m n : ℕ) → Laid at xs m o a o₁ → Laid a ys n o₁ r o₂ → Laid at (xs ++ ys) (m + n) o r o₂
then at a r xs ys o o₁ o₂ m n f g = record {
  ended = omega (arith, f.ended, g.ended, length-append xs ys);
  bytes = g.bytes ∙ ap₂ (λ (l : List ℕ) (j : ℕ). sets l j ys) f.bytes f.ended ∙ sets-append o at xs ys;
  few = omega (arith, f.few, g.few, length-append xs ys);
}

-- a label: its length byte, then its bytes
pub laid-label : (o : List ℕ) (at : ℕ) (l o₂ : List ℕ) → o₂ ≡ sets (set o at (length l)) (at + 1) l → Laid at (label_bytes l) (1 + length l) o (at + 1 + length l) o₂
laid-label o at l o₂ w = record {
  ended = omega arith;
  bytes = w ∙ ap (λ (j : ℕ). sets (set o at (length l)) j l) (add-one at);
  few = omega arith;
}

-- the same bytes under another name, and a wider bound
pub laid_as : (at r : ℕ) (xs ys o o₁ : List ℕ) (m n : ℕ) → Laid at xs m o r o₁ → xs ≡ ys → length ys ≤ n → Laid at ys n o r o₁
laid_as at r xs ys o o₁ m n f e h = record {
  ended = f.ended ∙ ap (λ (l : List ℕ). at + length l) e;
  bytes = f.bytes ∙ ap (sets o at) e;
  few = h;
}

-- a label that an array holds
pub held_least : (at r n len : ℕ) (bytes o o₁ : List ℕ) → n ≡ min len (length bytes) → Laid at (label_bytes (take n bytes)) (1 + length (take n bytes)) o r o₁
    → Laid at (label_bytes (take len bytes)) (1 + length bytes) o r o₁
held_least at r n len bytes o o₁ e f =
    let same : take n bytes ≡ take len bytes = ap (λ (k : ℕ). take k bytes) e ∙ take_min len bytes in
    laid_as at r _ _ o o₁ (1 + length (take n bytes)) (1 + length bytes) f (ap label_bytes same) (omega (arith, length-take len bytes))

-- the same in an array of a known size
pub held_in_lem : (at r len : ℕ) (bytes o o₁ : List ℕ) (n : ℕ) → length bytes ≡ n → Laid at (label_bytes (take len bytes)) (1 + length bytes) o r o₁
    → Laid at (label_bytes (take len bytes)) (1 + n) o r o₁
held_in_lem at r len bytes o o₁ n e f = laid_as at r _ _ o o₁ (1 + length bytes) (1 + n) f refl (omega (arith, f.few))

-- the fixed strings
pub laid-udp : (at r : ℕ) (p o o₁ : List ℕ) (m : ℕ) (v : Bool) → v ≡ same_bytes p udp → v ≡ true → Laid at (label_bytes udp) m o r o₁ → Laid at (label_bytes (protocol_label p)) 5 o r o₁
laid-udp at r p o o₁ m v is t f =
    let e : udp ≡ protocol_label p = sym (simp (sym is ∙ t)) in
    laid_as at r (label_bytes udp) (label_bytes (protocol_label p)) o o₁ m 5 f (ap label_bytes e) (omega (arith, ap length e))

pub laid-tcp : (at r : ℕ) (p o o₁ : List ℕ) (m : ℕ) (v : Bool) → v ≡ same_bytes p udp → v ≡ false → Laid at (label_bytes tcp) m o r o₁ → Laid at (label_bytes (protocol_label p)) 5 o r o₁
laid-tcp at r p o o₁ m v is t f =
    let e : tcp ≡ protocol_label p = sym (simp (sym is ∙ t)) in
    laid_as at r (label_bytes tcp) (label_bytes (protocol_label p)) o o₁ m 5 f (ap label_bytes e) (omega (arith, ap length e))

pub laid-local : (at r : ℕ) (o o₁ : List ℕ) (m : ℕ) → Laid at (label_bytes local) m o r o₁ → Laid at (encode (local ∷ [])) 7 o (r + 1) (set o₁ r 0)
laid-local at r o o₁ m f =
    laid_as at (r + 1) (label_bytes local ++ (0 ∷ [])) (encode (local ∷ [])) o (set o₁ r 0) (m + 1) 7
    (then at r (r + 1) (label_bytes local) (0 ∷ []) o o₁ (set o₁ r 0) m 1 f (record { ended = refl; bytes = refl; few = omega arith })) refl (omega arith)

-- the own names
pub laid-service : (s : Setup) (at a b r : ℕ) (o o₁ o₂ o₃ : List ℕ) → Laid at (label_bytes (service_held s.service)) 17 o a o₁ → Laid a (label_bytes (protocol_label s.protocol)) 5 o₁ b o₂
    → Laid b (encode (local ∷ [])) 7 o₂ r o₃ → Laid at (encode (service_labels s)) 29 o r o₃
unfolding service_labels
laid-service s at a b r o o₁ o₂ o₃ f g h =
    let k = then at b r _ _ o o₂ o₃ 22 7 (then at a b _ _ o o₁ o₂ 17 5 f g) h in
    let e : (label_bytes (service_held s.service) ++ label_bytes (protocol_label s.protocol)) ++ encode (local ∷ []) ≡ encode (service_held s.service ∷ protocol_label s.protocol ∷ local ∷ []) = simp append_assoc in
    laid_as at r _ _ o o₃ 29 29 k e (omega (arith, k.few, ap length e))

pub laid-instance : (s : Setup) (at a r : ℕ) (o o₁ o₂ : List ℕ) → Laid at (label_bytes (label_held s.instance)) 64 o a o₁ → Laid a (encode (service_labels s)) 29 o₁ r o₂
    → Laid at (encode (instance_labels s)) 93 o r o₂
unfolding instance_labels
laid-instance s at a r o o₁ o₂ f g = then at a r _ _ o o₁ o₂ 64 29 f g

pub laid-host : (s : Setup) (at a r : ℕ) (o o₁ o₂ : List ℕ) → Laid at (label_bytes (label_held s.host)) 64 o a o₁ → Laid a (encode (local ∷ [])) 7 o₁ r o₂
    → Laid at (encode (host_labels s)) 71 o r o₂
unfolding host_labels
laid-host s at a r o o₁ o₂ f g = then at a r _ _ o o₁ o₂ 64 7 f g

-- a buffer of zeros, filled from its start
filled : (n : ℕ) (bs : List ℕ) → length bs ≤ n → sets (replicate n 0) 0 bs ≡ bs ++ replicate (n - length bs) 0
filled n bs h =
    sets-eq bs (replicate n 0) 0 (omega (arith, length-replicate {A = ℕ} n 0))
    ∙ ap (λ (k : ℕ). bs ++ drop k (replicate n 0)) (zero-add (length bs)) ∙ ap (λ (l : List ℕ). bs ++ l) (drop-replicate (length bs) n 0)

pub own_of_lem : (bs o : List ℕ) (n : ℕ) → o ≡ sets (replicate 400 0) 0 bs → n ≡ length bs → length bs ≤ 400 → ◌≡◌ {A = OwnBytes} (record { bytes = o; len = n }) (own_of bs)
own_of_lem bs o n w e h = let f : o ≡ bs ++ replicate (400 - length bs) 0 = w ∙ filled 400 bs h in λ i. record { bytes = f i; len = e i }

pub own_laid : (bs o : List ℕ) (n m : ℕ) → Laid 0 bs m (replicate 400 0) n o → m ≤ 400 → ◌≡◌ {A = OwnBytes} (record { bytes = o; len = n }) (own_of bs)
own_laid bs o n m f h = own_of_lem bs o n f.bytes (f.ended ∙ zero-add (length bs)) (omega (arith, f.few))

-- a port in two bytes
port_bytes : (port : ℕ) → port < 65536 → to_be_bytes w16 port ≡ (port / 256) ∷ (port % 256) ∷ []
port_bytes port h = let e : port / 256 % 256 ≡ port / 256 = omega arith in λ i. e i ∷ (port % 256) ∷ []

-- the six bytes in front of the target: a buffer of zeros has four of them
pub own_srv : (s : Setup) (o o₁ : List ℕ) (n : ℕ) → s.port < 65536 → o₁ ≡ sets (replicate 400 0) 4 (to_be_bytes w16 s.port) → Laid 6 (encode (host_labels s)) 71 o₁ n o
    → ◌≡◌ {A = OwnBytes} (record { bytes = o; len = n }) (own_of (srv_rdata s))
unfolding srv_rdata
own_srv s o o₁ n small w f =
    own_laid _ o n 77
    (then 0 6 n (0 ∷ 0 ∷ 0 ∷ 0 ∷ (s.port / 256) ∷ (s.port % 256) ∷ []) (encode (host_labels s)) (replicate 400 0) o₁ o 6 71
    (record { ended = refl; bytes = w ∙ ap (sets (replicate 400 0) 4) (port_bytes s.port small); few = omega arith }) f) (omega arith)

-- types behind a name
pub laid-types : (at : ℕ) (types o o₁ : List ℕ) → o₁ ≡ sets o at types → Laid at types (length types) o (at + length types) o₁
laid-types at types o o₁ w = record { ended = refl; bytes = w; few = omega arith }

pub laid-host_types : (aaaa b : Bool) (at r m : ℕ) (o o₁ : List ℕ) → aaaa ≡ b → Laid at (host_types b) m o r o₁ → Laid at (host_types aaaa) 6 o r o₁
laid-host_types aaaa true at r m o o₁ e f = rw e (laid_as at r (host_types true) (host_types true) o o₁ m 6 f refl (omega arith))
laid-host_types aaaa false at r m o o₁ e f = rw e (laid_as at r (host_types false) (host_types false) o o₁ m 6 f refl (omega arith))

pub own_nsec : (name types o o₁ : List ℕ) (end n m k : ℕ) → m + k ≤ 400 → Laid 0 name m (replicate 400 0) end o → Laid end types k o n o₁
    → ◌≡◌ {A = OwnBytes} (record { bytes = o₁; len = n }) (own_of (name ++ types))
own_nsec name types o o₁ end n m k h f g = own_laid _ o₁ n (m + k) (then 0 end n name types (replicate 400 0) o o₁ m k f g) h

-- TXT strings in their array
pub own_held : (bytes : List ℕ) (n len : ℕ) (o : List ℕ) → length bytes ≡ 400 → n ≡ min len 400 → o ≡ sets (replicate 400 0) 0 (take n bytes)
    → ◌≡◌ {A = OwnBytes} (record { bytes = o; len = n }) (own_of (take len bytes))
own_held bytes n len o e k w =
    let same : take n bytes ≡ take len bytes = ap (λ (k : ℕ). take k bytes) (k ∙ ap (min len) (sym e)) ∙ take_min len bytes in
    own_of_lem (take len bytes) o n (w ∙ ap (sets (replicate 400 0) 0) same) (omega (arith, length-take len bytes)) (omega (arith, length-take len bytes))
