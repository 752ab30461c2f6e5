-- A set-up is read from the front of a state's bytes alone. Assumes nothing.
use mathlib.Core.Path.{◌≡◌, ap, ◌∙◌}
use mathlib.Core.List.{List, ◌++◌}
use Prim.Native.Nat.{ℕ, ◌+◌, ◌%◌, ◌<◌, ◌≤◌}
use native.Mathlib.Omega.{arith}
use lib.Dec.{eqb}
use lib.ListN.{length, take, drop, length-drop, get_or-append}
use lib.Seq.{take-append-le, drop-append-le}
use Rattle.wire.specs.octets.Octets.{byte_at, word16}
use Rattle.capi_responder.specs.codec.Layout as layout
use Rattle.capi_responder.specs.codec.Parts.{part_at, label_at, service_at, strings_at, setup_at}

module _ (p q : List ℕ) where
  pub part_front : (at n : ℕ) → at + n ≤ length p → part_at (p ++ q) at n ≡ part_at p at n
  part_front at n h =
      let k : at ≤ length p = omega arith in
      let m : n ≤ length (drop at p) = rw (length-drop at p) (omega arith) in
      ap (take n) (drop-append-le at p q k) ∙ take-append-le n (drop at p) q m

  pub byte_front : (at : ℕ) → at < length p → byte_at (p ++ q) at ≡ byte_at p at
  byte_front at h = get_or-append p q 0 at h

  pub word16-front : (at : ℕ) → at + 1 < length p → word16 (p ++ q) at ≡ word16 p at
  word16-front at h = omega (arith, byte_front at (omega arith), byte_front (at + 1) h)

  pub label-front : (at : ℕ) → at + layout.label_size ≤ length p → label_at (p ++ q) at ≡ label_at p at
  unfolding label_at
  label-front at h = λ i. record { bytes = part_front at layout.most_label (omega arith) i; len = byte_front (at + layout.most_label) (omega arith) i }

  pub service-front : (at : ℕ) → at + layout.service_size ≤ length p → service_at (p ++ q) at ≡ service_at p at
  unfolding service_at
  service-front at h = λ i. record { bytes = part_front at layout.most_service (omega arith) i; len = byte_front (at + layout.most_service) (omega arith) i }

  strings-front : (at : ℕ) → at + layout.txt_size ≤ length p → strings_at (p ++ q) at ≡ strings_at p at
  unfolding strings_at
  strings-front at h = λ i. record { bytes = part_front at layout.most_txt (omega arith) i; len = word16-front (at + layout.most_txt) (omega arith) i }

  pub setup_front : layout.setup_size ≤ length p → setup_at (p ++ q) ≡ setup_at p
  unfolding setup_at
  setup_front h = λ i. record {
    instance = label-front layout.instance (omega arith) i;
    service = service-front layout.service (omega arith) i;
    protocol = part_front layout.protocol layout.protocol_size (omega arith) i;
    host = label-front layout.host (omega arith) i;
    domain = part_front layout.domain layout.domain_size (omega arith) i;
    port = word16-front layout.port (omega arith) i;
    txt = strings-front layout.txt (omega arith) i;
    a = part_front layout.a layout.a_size (omega arith) i;
    hasaaaa = ap (λ (v : ℕ). eqb (v % 2) 1) (byte_front layout.hasaaaa (omega arith)) i;
    aaaa = part_front layout.aaaa layout.aaaa_size (omega arith) i;
  }
