-- Held queries, one behind the other: each is read where it stands. Assumes nothing.
use mathlib.Core.Path.{◌≡◌, refl, ap, ◌∙◌}
use mathlib.Core.Bool.{Bool, true, false}
use mathlib.Core.List.{List, [], ◌∷◌, map}
use Prim.Native.Nat.{ℕ, zero, suc, ◌+◌, ◌%◌, ◌<◌}
use native.Mathlib.Omega.{arith}
use lib.Dec.{eqb}
use lib.ListN.{length, get_or}
use Rattle.wire.specs.octets.Octets.{byte_at}
use Rattle.claims.specs.records.Own.{all, index_of, record_at, has, each}
use Rattle.claims.specs.declared.records.Own.{Own}
use Rattle.claims.specs.declared.records.Own.TheVariants.{Ptr}
use Rattle.claims.specs.declared.records.Set.{Set}
use Rattle.claims.specs.declared.holds.Hold.{Hold}
use Rattle.claims.specs.declared.holds.Holds.{Holds}
use Rattle.claims.proofs.records.Sets.{index_low, at-index}
use Rattle.capi_responder.specs.codec.Numbers.{bytes64}
use Rattle.capi_responder.specs.codec.Layout as layout
use Rattle.capi_responder.specs.codec.Parts.{flag_at, set_at, hold_at, holds_at}
use Rattle.capi_responder.specs.codec.Codec.{when_bytes, flag_byte, set_bytes, hold_bytes, holds_bytes, HoldFits, HoldsFit}
use Rattle.capi_responder.proofs.codec.Stands.{Stands, front, behind, byte_read, number_read, when_read}

-- ---- a set of own records

module _ {b : List ℕ} (f : Own → ℕ) where
  nth : (os : List Own) (at i : ℕ) → i < length os → Stands b at (map f os) → byte_at b (at + i) ≡ f (get_or os i Ptr)
  nth [] at i h s = absurd (omega arith)
  nth (o ∷ os) at zero h s =
      let k : at + 0 ≡ at = omega arith in
      ap (byte_at b) k ∙ byte_read (f o) (map f os) s
  nth (o ∷ os) at (suc i) h s =
      let k : at + suc i ≡ (at + 1) + i = omega arith in
      ap (byte_at b) k ∙ nth os (at + 1) i (omega arith) (behind (f o ∷ []) (map f os) s 1 refl)

flag_back : (v : Bool) → eqb (flag_byte v % 2) 1 ≡ v
flag_back true = refl
flag_back false = refl

set-length : (set : Set) → length (set_bytes set) ≡ layout.set_size
unfolding set_bytes
set-length set = refl

module _ {b : List ℕ} {at : ℕ} where
  member_read : (set : Set) → Stands b at (set_bytes set) → (o : Own) → flag_at b (at + index_of o) ≡ has o set
  unfolding set_bytes record_at
  member_read set s o =
      ap (λ (v : ℕ). eqb (v % 2) 1) (nth (λ o. flag_byte (has o set)) all at (index_of o) (index_low o) s)
      ∙ ap (λ (p : Own). eqb (flag_byte (has p set) % 2) 1) (at-index o) ∙ flag_back (has o set)

  set-read : (set : Set) → Stands b at (set_bytes set) → set_at b at ≡ set
  unfolding set_at
  set-read set s = λ j. each (λ o. member_read set s o j)

-- ---- a held query, and all

module _ {b : List ℕ} {at : ℕ} where
  hold-read : (h : Hold) → HoldFits h → Stands b at (hold_bytes h) → hold_at b at ≡ h
  unfolding hold_at hold_bytes bytes64
  hold-read h fits high =
      let low = behind (bytes64 h.from.high) _ high layout.number_size refl in
      let due = behind (bytes64 h.from.low) _ low layout.number_size refl in
      let asked = behind (when_bytes h.due) _ due layout.case_size refl in
      let known = behind (set_bytes h.asked) _ asked layout.set_size (set-length h.asked) in
      λ i. record {
        from = record {
          high = number_read h.from.high fits.high (front _ _ high) i;
          low = number_read h.from.low fits.low (front _ _ low) i;
        };
        due = when_read h.due fits.due (front _ _ due) i;
        asked = set-read h.asked (front _ _ asked) i;
        known = set-read h.known known i;
      }

pub holds_read : {b : List ℕ} (holds : Holds) → HoldsFit holds → Stands b layout.holds (holds_bytes holds) → holds_at b ≡ holds
unfolding holds_at holds_bytes hold_bytes set_bytes bytes64
holds_read holds fits first =
    let second = behind (hold_bytes holds.first) _ first layout.hold_size refl in
    let third = behind (hold_bytes holds.second) _ second layout.hold_size refl in
    let fourth = behind (hold_bytes holds.third) _ third layout.hold_size refl in
    λ i. record {
      first = hold-read holds.first fits.first (front _ _ first) i;
      second = hold-read holds.second fits.second (front _ _ second) i;
      third = hold-read holds.third fits.third (front _ _ third) i;
      fourth = hold-read holds.fourth fits.fourth fourth i;
    }
