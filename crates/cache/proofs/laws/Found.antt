-- Theorem: a record that was taken is found until its entry expires, right after the rules for it. Assumes nothing.
use Rattle.std.proofs.Common.{None, Option, Some}
use mathlib.Core.Path.{◌≡◌, refl, sym, ap, subst, ◌∙◌}
use mathlib.Core.List.{List}
use mathlib.Core.Bool.{true, ◌&&◌}
use Prim.Native.Nat.{ℕ, ◌+◌, ◌*◌, ◌<◌, ◌≤◌}
use native.Mathlib.Omega.{arith}
use lib.ListN.{length, get_or, take, length-set}
use lib.Seq.{sets, get_or-set_same}
use lib.Dec.{eqb}
use borrow.Author.Tests.{le-ltb, lt-ltb, eq-eqb, ne_eqb}
use mathlib.Mathlib.Data.Bool.Basic.{and-eq-true-eq-eq-true-and-eq-true as both}
use Rattle.wire.specs.case_folding.Fold.{same_name}
use Rattle.wire.proofs.case_folding.Equal.{same_refl}
use Rattle.wire.specs.expansion.Equal.{same_bytes}
use Rattle.wire.specs.message.Message.{Record}
use Rattle.cache.specs.entries.Entries.{blank, rdata_held, is_live, is_of, live_of, matches, holds, refreshed}
use Rattle.cache.specs.entries.Cache.{Cache, rule1, entry_for, slot_for, taken, renewed, equal_slot, free_slot, rule23, after_rule1, look_in}
use Rattle.cache.specs.declared.entries.Entry.{Entry}
use Rattle.cache.specs.laws.Slots.{entry_at}
use Rattle.cache.specs.laws.Found.{goes_to, Entered, TakenFound}
use Rattle.cache.proofs.entries.Searches.{lowest-here, from-slot}
use Rattle.cache.proofs.entries.Single.{match_from, live_of_lem}
use Rattle.cache.proofs.entries.Shape.{rule1-shape}
use Rattle.cache.proofs.laws.Slots.{slot-written, owner_back}
use Rattle.cache.proofs.laws.Steps.{rule1-equal, rule1-free}
use Rattle.cache.proofs.laws.Flush.{ruled, equal_holds, free_dead, live_first}

-- a live entry of a name and type is found by a lookup from its slot on
pub look-here : (t : ℕ) (es : List Entry) (store name : List ℕ) (rtype i : ℕ) → i < length es → is_live t (get_or es i blank) ≡ true → is_of store name rtype i (get_or es i blank) ≡ true → look_in t es store name rtype i ≡ Some i
unfolding look_in
look-here t es store name rtype i h l o =
    sym (lowest-here (matches t store name rtype i) es i (from-slot t store name rtype i es) h
    (match_from t store name rtype i i (get_or es i blank) (omega arith) ∙ sym (live_of_lem t store name rtype i (get_or es i blank) l true (sym o))))

-- the entry of a record and its slot are of its name and type
of_fresh : (now : ℕ) (x : Record) (store : List ℕ) (i : ℕ) → length x.owner ≤ 255 → length x.rdata ≤ 768 → 1024 * i + 1024 ≤ length store → is_of (sets store (1024 * i) (slot_for x)) x.owner x.rtype i (entry_for now x) ≡ true
unfolding is_of
of_fresh now x store i o d h =
    simp (eq-eqb x.rtype x.rtype refl, eq-eqb (length x.owner) (length x.owner) refl)
    (ap (λ (s : List ℕ). same_name (take (length x.owner) s) x.owner) (slot-written store i x h) ∙ ap (λ (b : List ℕ). same_name b x.owner) (owner_back x (omega arith) d) ∙ same_refl x.owner)

-- a renewed entry is of the name and type that it was of
of_again : (now ttl : ℕ) (store name : List ℕ) (rtype i : ℕ) (e : Entry) → is_of store name rtype i (refreshed now ttl e) ≡ is_of store name rtype i e
unfolding is_of
of_again now ttl store name rtype i e = refl

pub holds_of : (now : ℕ) (store name : List ℕ) (rtype : ℕ) (d : List ℕ) (i : ℕ) (e : Entry) → holds now store name rtype d i e ≡ true → is_of store name rtype i e ≡ true
unfolding holds
holds_of now store name rtype d i e h = (live_first now store name rtype i e ((both (live_of now store name rtype i e) (eqb e.rdata (length d) && same_bytes (rdata_held store i e) d)).0 h).0).1

module _ (now : ℕ) (x : Record) (c : Cache) (i : ℕ) (owner : length x.owner ≤ 255) (rdata : length x.rdata ≤ 768) (slots : 1024 * length c.entries ≤ length c.store) where
  of_entry : (d : Cache) (e : Entry) → i < length d.entries → entry_at d i ≡ e → e.received ≡ now → e.expiry ≡ now + 1000 * x.ttl → e.ttl ≡ x.ttl → is_of d.store x.owner x.rtype i e ≡ true → Entered now x i d
  of_entry d e h k r y t o =
      record {
        received = ap (λ (z : Entry). z.received) k ∙ r;
        expiry = ap (λ (z : Entry). z.expiry) k ∙ y;
        ttl = ap (λ (z : Entry). z.ttl) k ∙ t;
        found = λ t l. look-here t d.entries d.store x.owner x.rtype i h (lt-ltb t (entry_at d i).expiry l) (ap (is_of d.store x.owner x.rtype i) k ∙ o);
      }

  of_taken : (s : Option ℕ) → free_slot now c ≡ s → s ≡ Some i → Entered now x i (taken now x c s)
  of_taken (Some j) f e =
      let same : j ≡ i = cc in
      let h : i < length c.entries = (free_dead now c i (f ∙ e)).0 in
      let at_i : Entered now x i (taken now x c (Some i)) =
      of_entry (taken now x c (Some i)) (entry_for now x) (omega (arith, length-set c.entries i (entry_for now x))) (get_or-set_same c.entries i (entry_for now x) blank h) refl refl refl
      (of_fresh now x c.store i owner rdata (omega arith)) in
      subst (λ (k : ℕ). Entered now x i (taken now x c (Some k))) (sym same) at_i
  of_taken None f e = let z : ◌≡◌ {A = ℕ} 0 1 = cc in absurd (omega arith)

  of_renewed : (s : Option ℕ) → equal_slot now x c ≡ s → goes_to now c s ≡ Some i → Entered now x i (renewed now x c s)
  of_renewed (Some j) f e =
      let same : j ≡ i = cc in
      let k = equal_holds now x c i (f ∙ e) in
      let at_i : Entered now x i (renewed now x c (Some i)) =
      of_entry (renewed now x c (Some i)) (refreshed now x.ttl (entry_at c i)) (omega (arith, length-set c.entries i (refreshed now x.ttl (entry_at c i)), k.0))
      (get_or-set_same c.entries i (refreshed now x.ttl (entry_at c i)) blank k.0) refl refl refl
      (of_again now x.ttl c.store x.owner x.rtype i (entry_at c i) ∙ holds_of now c.store x.owner x.rtype x.rdata i (entry_at c i) k.1) in
      subst (λ (m : ℕ). Entered now x i (renewed now x c (Some m))) (sym same) at_i
  of_renewed None f e = of_taken (free_slot now c) refl e

pub taken-found : TakenFound
unfolding after_rule1 rule23
taken-found now x c i owner rdata slots cached z k =
    let c₁ = rule1 now x c in
    let room : 1024 * length c₁.entries ≤ length c₁.store = omega (arith, (rule1-shape now x c).entries, (rule1-shape now x c).store) in
    let after : after_rule1 now x c₁ ≡ renewed now x c₁ (equal_slot now x c₁) = simp (le-ltb _ _ rdata, ne_eqb _ _ z) in
    let goes : goes_to now c₁ (equal_slot now x c₁) ≡ Some i = ap (goes_to now c₁) (rule1-equal now x c) ∙ same (equal_slot now x c) ∙ k in
    subst (Entered now x i) (sym (ruled now x c cached ∙ after)) (of_renewed now x c₁ i owner rdata room (equal_slot now x c₁) refl goes)
  where
    same : (s : Option ℕ) → goes_to now (rule1 now x c) s ≡ goes_to now c s
    same (Some j) = refl
    same None = rule1-free now x c
