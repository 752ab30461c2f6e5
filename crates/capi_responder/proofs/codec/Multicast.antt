-- The last multicasts, one behind the other: each is read where it stands. Assumes nothing.
use Rattle.std.specs.Prelude.{None}
use mathlib.Core.Path.{◌≡◌, refl, sym, ap, subst, ◌∙◌}
use mathlib.Core.List.{List, [], ◌∷◌, map}
use Prim.Native.Nat.{ℕ, zero, suc, ◌+◌, ◌*◌, ◌<◌}
use native.Mathlib.Omega.{arith}
use lib.ListN.{length, get_or, get_or-map}
use lib.Seq.{ext_get_or}
use Rattle.claims.specs.records.Own.{all, records, index_of, record_at}
use Rattle.claims.specs.Time.{last_of, each_last, sent_of}
use Rattle.claims.specs.declared.records.Own.{Own}
use Rattle.claims.specs.declared.records.Own.TheVariants.{Ptr}
use Rattle.claims.specs.declared.Multicast.{Multicast}
use Rattle.claims.specs.declared.Multicasts.{Multicasts}
use Rattle.claims.proofs.records.Sets.{index_low, at-index}
use Rattle.capi_responder.specs.codec.Numbers.{bytes64}
use Rattle.capi_responder.specs.codec.Layout as layout
use Rattle.capi_responder.specs.codec.Parts.{sent_at, multicasts_at}
use Rattle.capi_responder.specs.codec.Codec.{when_bytes, last_bytes, multicasts_bytes, MulticastsFit}
use Rattle.capi_responder.proofs.codec.Stands.{Stands, front, behind, when_read}

-- ---- an array of one element a record

-- in a list, past whose end nothing is asked, what stands there does not matter
get_d_any : {A : Type 0} (l : List A) (i : ℕ) (d e : A) → i < length l → get_or l i d ≡ get_or l i e
get_d_any [] i d e h = absurd (omega arith)
get_d_any (x ∷ l) zero d e h = refl
get_d_any (x ∷ l) (suc i) d e h = get_d_any l i d e (omega arith)

-- `n` numbers from one on
counted : ℕ → ℕ → List ℕ
counted from zero = []
counted from (suc n) = from ∷ counted (suc from) n

counted-at : (from n i : ℕ) → i < n → get_or (counted from n) i 0 ≡ from + i
unfolding counted
counted-at from zero i h = absurd (omega arith)
counted-at from (suc n) zero h = omega arith
counted-at from (suc n) (suc i) h = counted-at (suc from) n i (omega arith) ∙ count
  where
    count : suc from + i ≡ from + suc i
    count = omega arith

-- the index of the record of an index
pub index_at : (i : ℕ) → i < records → index_of (record_at i) ≡ i
unfolding record_at counted
index_at i h = sym (get_or-map index_of all i Ptr) ∙ counted-at 0 records i h ∙ none
  where
    none : 0 + i ≡ i
    none = omega arith

-- last multicasts that are as many as the records are those of the records
pub of_each : (m : Multicasts) → length m.of ≡ records → each_last (λ o. sent_of o m) ≡ m
unfolding record_at
of_each m e = λ j. record { of = ext_get_or (last_of None) (map each all) m.of (sym e) at j }
  where
    each : Own → Multicast
    each o = last_of (sent_of o m)

    at : (i : ℕ) → i < records → get_or (map each all) i (last_of None) ≡ get_or m.of i (last_of None)
    at i h =
        get_d_any (map each all) i (last_of None) (each Ptr) h ∙ get_or-map each all i Ptr
        ∙ ap (λ (k : ℕ). get_or m.of k (last_of None)) (index_at i h)

-- ---- in the bytes

module _ {b : List ℕ} (m : Multicasts) where
  nth : (os : List Own) (at i : ℕ) → i < length os → Stands b at (last_bytes m os)
      → Stands b (at + i * layout.case_size) (when_bytes (sent_of (get_or os i Ptr) m))
  unfolding last_bytes bytes64
  nth [] at i h s = absurd (omega arith)
  nth (o ∷ os) at zero h s =
      let k : at ≡ at + 0 * layout.case_size = omega arith in
      subst (λ (n : ℕ). Stands b n (when_bytes (sent_of o m))) k (front (when_bytes (sent_of o m)) (last_bytes m os) s)
  nth (o ∷ os) at (suc i) h s =
      let k : (at + layout.case_size) + i * layout.case_size ≡ at + suc i * layout.case_size = omega arith in
      subst (λ (n : ℕ). Stands b n (when_bytes (sent_of (get_or os i Ptr) m))) k
      (nth os (at + layout.case_size) i (omega arith) (behind (when_bytes (sent_of o m)) (last_bytes m os) s layout.case_size refl))

  each_read : MulticastsFit m → Stands b layout.multicasts (multicasts_bytes m) → (o : Own) → sent_at b o ≡ sent_of o m
  unfolding sent_at multicasts_bytes record_at
  each_read h s o =
      when_read (sent_of o m) (h.times o)
      (subst (λ (p : Own). Stands b (layout.multicast (index_of o)) (when_bytes (sent_of p m))) (at-index o) (nth all layout.multicasts (index_of o) (index_low o) s))

  pub multicasts-read : MulticastsFit m → Stands b layout.multicasts (multicasts_bytes m) → multicasts_at b ≡ m
  unfolding multicasts_at
  multicasts-read h s = (λ j. each_last (λ o. each_read h s o j)) ∙ of_each m h.sized
