-- The records to write, picked one after the other, and of a claim. Assumes nothing.
use mathlib.Core.Path.{◌≡◌, refl, sym, ap, ap₂, ◌∙◌}
use mathlib.Core.List.{List, [], ◌∷◌, ◌++◌, map, map-append, append_assoc, append-nil}
use mathlib.Core.Bool.{Bool, true, false, cond, ◌&&◌, and-false}
use Prim.Native.Nat.{ℕ, ◌+◌, ◌<◌, ◌≤◌}
use native.Mathlib.Numerals.{add-one}
use native.Mathlib.Omega.{arith}
use lib.ListN.{length, take, drop, set, replicate, length-set, length-replicate, drop_of_length-le}
use lib.Seq.{take-suc-set}
use Rattle.claims.specs.records.Own.{all, records, index_of, record_at, first_of, second_of, has}
use Rattle.claims.specs.records.Sets.{picked}
use Rattle.claims.specs.declared.records.Claim.{Claim}
use Rattle.claims.specs.declared.records.Claim.TheVariants.{Instance, Host}
use Rattle.claims.specs.declared.records.Own.{Own}
use Rattle.claims.specs.declared.records.Own.TheVariants.{Ptr}
use Rattle.claims.specs.declared.records.Set.{Set}
use Rattle.claims.proofs.records.Searched.{rest}
use Rattle.claims.proofs.records.Sets.{at-index}
use Rattle.own.specs.declared.records.Setup.{Setup}
use Rattle.own.specs.records.Records.{has_record}
use Rattle.writer.specs.own_packets.Own.{response_records, probe_records}
use Rattle.writer.specs.own_packets.Ready.{Picks}

-- chosen, and there
abbrev pub wanted : Setup → Set → Own → Bool
wanted s chosen o = has o chosen && has_record s o

-- those before the index `i` are picked
pub record Picking (s : Setup) (chosen : Set) (order : List ℕ) (n i : ℕ) : Type 0 where
  pub low : n ≤ i
  pub high : i ≤ records
  pub sized : length order ≡ records
  pub so : response_records s chosen ≡ map record_at (take n order) ++ picked (wanted s chosen) (drop i all)

pub picking : (s : Setup) (chosen : Set) → Picking s chosen (replicate records 0) 0 0
unfolding response_records
picking s chosen = record { low = omega arith; high = omega arith; sized = length-replicate {A = ℕ} records 0; so = refl }

module _ (s : Setup) (chosen : Set) (order : List ℕ) (n i : ℕ) (p : Picking s chosen order n i) where
  pub picked_all : records ≤ i → Picks (response_records s chosen) (record { order = order; n = n })
  unfolding picked
  picked_all h = record {
    few = omega (arith, p.low, p.high);
    those =
        sym (p.so ∙ ap (λ (l : List Own). map record_at (take n order) ++ picked (wanted s chosen) l) (drop_of_length-le all h) ∙ append-nil
        (map record_at (take n order)));
    sized = p.sized;
  }

  module _ (h : i < records) (o : Own) (eo : o ≡ record_at i) where
    front : (b : Bool) → wanted s chosen o ≡ b
        → picked (wanted s chosen) (drop i all) ≡ cond b (record_at i ∷ picked (wanted s chosen) (drop (i + 1) all))
        (picked (wanted s chosen) (drop (i + 1) all))
    unfolding picked record_at
    front b e =
        ap (picked (wanted s chosen)) (rest all i Ptr h)
        ∙ ap (λ (c : Bool). cond c (record_at i ∷ picked (wanted s chosen) (drop (i + 1) all)) (picked (wanted s chosen) (drop (i + 1) all)))
        (ap (wanted s chosen) (sym eo) ∙ e)

    pub picked-not : wanted s chosen o ≡ false → Picking s chosen order n (i + 1)
    picked-not e = record {
      low = omega (arith, p.low);
      high = omega arith;
      sized = p.sized;
      so = p.so ∙ ap (λ (l : List Own). map record_at (take n order) ++ l) (front false e);
    }

    pub not_chosen : (v : Bool) → v ≡ has o chosen → v ≡ false → Picking s chosen order n (i + 1)
    not_chosen v is e = picked-not (ap (λ (b : Bool). b && has_record s o) (sym is ∙ e))

    pub not_there : (v : Bool) → v ≡ has_record s o → v ≡ false → Picking s chosen order n (i + 1)
    not_there v is t = picked-not (ap (λ (b : Bool). has o chosen && b) (sym is ∙ t) ∙ and-false (has o chosen))

    pub taken : (u : Bool) → u ≡ has o chosen → u ≡ true → (v : Bool) → v ≡ has_record s o → v ≡ true → Picking s chosen (set order n i) (n + 1) (i + 1)
    taken u iu e v is t =
        let w : wanted s chosen o ≡ true = ap₂ (λ (a b : Bool). a && b) (sym iu ∙ e) (sym is ∙ t) in
        let lt : n < length order = omega (arith, p.low, p.sized) in
        let f : take (n + 1) (set order n i) ≡ take n order ++ (i ∷ []) = ap (λ (k : ℕ). take k (set order n i)) (add-one n) ∙ take-suc-set order n i lt in
        let more : List Own = picked (wanted s chosen) (drop (i + 1) all) in
        let g : map record_at (take (n + 1) (set order n i)) ≡ map record_at (take n order) ++ (record_at i ∷ []) = ap (map record_at) f ∙ map-append record_at
        (take n order) (i ∷ []) in
        record {
          low = omega (arith, p.low);
          high = omega arith;
          sized = length-set order n i ∙ p.sized;
          so =
              p.so ∙ ap (λ (l : List Own). map record_at (take n order) ++ l) (front true w) ∙ sym
              (append_assoc (map record_at (take n order)) (record_at i ∷ []) more) ∙ ap (λ (l : List Own). l ++ more) (sym g);
        }

-- a claim's records
first-there : (s : Setup) (claim : Claim) → has_record s (first_of claim) ≡ true
unfolding has_record
first-there s Instance = refl
first-there s Host = refl

module _ (s : Setup) (claim : Claim) (first second : Own) (ef : first ≡ first_of claim) (es : second ≡ second_of claim) (i j : ℕ) (ei : i ≡ index_of first)
    (ej : j ≡ index_of second) (v : Bool) (ev : v ≡ has_record s second) where
  chosen : (b : Bool) → v ≡ b → probe_records s claim ≡ cond b (first ∷ second ∷ []) (first ∷ [])
  unfolding probe_records picked
  chosen true t = simp (first-there s claim, ← es, ← ev, t, ef)
  chosen false t = simp (first-there s claim, ← es, ← ev, t, ef)

  at_first : record_at i ≡ first
  at_first = ap record_at ei ∙ at-index first

  at_second : record_at j ≡ second
  at_second = ap record_at ej ∙ at-index second

  pub both-picks : v ≡ true → Picks (probe_records s claim) (record { order = set (set (replicate records 0) 0 i) 1 j; n = 2 })
  both-picks t = record {
    few = omega arith;
    those = ap₂ (λ (a b : Own). a ∷ b ∷ []) at_first at_second ∙ sym (chosen true t);
    sized = refl;
  }

  pub one-picks : v ≡ false → Picks (probe_records s claim) (record { order = set (replicate records 0) 0 i; n = 1 })
  one-picks t = record {
    few = omega arith;
    those = ap (λ (a : Own). a ∷ []) at_first ∙ sym (chosen false t);
    sized = refl;
  }
