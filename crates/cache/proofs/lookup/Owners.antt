-- What a lookup shows of the name is right of the owner that it found: as many labels, and a first one as long. Assumes nothing.
use Rattle.std.proofs.Common.{None, Option, Some}
use mathlib.Core.Path.{◌≡◌, refl, sym, ap, ◌∙◌}
use mathlib.Core.List.{List, [], ◌∷◌}
use mathlib.Core.Bool.{Bool, true, ◌&&◌}
use Prim.Native.Nat.{ℕ, zero, suc}
use native.Mathlib.Omega.{arith}
use lib.ListN.{length, get_or, replicate}
use lib.Dec.{leb, eqb}
use mathlib.Mathlib.Data.Bool.Basic.{and-eq-true-eq-eq-true-and-eq-true as both}
use borrow.Author.Tests.{ne_eqb}
use Rattle.wire.specs.Lists.{some}
use Rattle.wire.specs.case_folding.Fold.{same_name}
use Rattle.wire.specs.names.Names.{labels_fill, is_name}
use Rattle.wire.specs.labels.Counted.{starts, labels_in, first_in}
use Rattle.wire.proofs.labels.Numbers.{same_numbers}
use Rattle.cache.specs.entries.Entries.{blank, owner_held, is_live, is_of, live_of, matches}
use Rattle.cache.specs.entries.Tables.{lowest}
use Rattle.cache.specs.entries.Cache.{is_size, is_store_of, look_refusal, look_in}
use Rattle.cache.specs.declared.entries.Entry.{Entry}
use Rattle.cache.specs.lookup.Answers.{looked_with, looked_of}
use Rattle.cache.specs.declared.lookup.Met.{Met}
use Rattle.cache.specs.declared.lookup.Looked.TheVariants as l
use Rattle.cache.proofs.entries.Searches.{found_at}
use Rattle.cache.proofs.lookup.Refusing.{look-accepted}

-- the owner that is found equals the name
owner_same : (now : ℕ) (es : List Entry) (store name : List ℕ) (rtype from i : ℕ) → look_in now es store name rtype from ≡ Some i
    → same_name (owner_held store i (get_or es i blank)) name ≡ true
unfolding look_in matches live_of is_of
owner_same now es store name rtype from i h =
    let e : Entry = get_or es i blank in
    let same : Bool = same_name (owner_held store i e) name in
    let f = (found_at (matches now store name rtype from) es i h).1 in
    let live = ((both (leb from i) (is_live now e && (eqb e.rtype rtype && (eqb e.owner (length name) && same)))).0 f).1 in
    let typed = ((both (is_live now e) (eqb e.rtype rtype && (eqb e.owner (length name) && same))).0 live).1 in
    let long = ((both (eqb e.rtype rtype) (eqb e.owner (length name) && same)).0 typed).1 in
    ((both (eqb e.owner (length name)) same).0 long).1

pub owner_numbers : (now : ℕ) (es : List Entry) (store name : List ℕ) (rtype from i : ℕ) → is_name name ≡ true → look_in now es store name rtype from ≡ Some i
    → (labels_in name ≡ labels_in (owner_held store i (get_or es i blank))) × (first_in name ≡ first_in (owner_held store i (get_or es i blank)))
owner_numbers now es store name rtype from i is h =
    let n = same_numbers (owner_held store i (get_or es i blank)) name is (owner_same now es store name rtype from i h) in (sym n.0, sym n.1)

-- the answer of a lookup that found a slot: its two numbers are those of the owner in the slot
pub found_numbers : (now : ℕ) (es : List Entry) (store name : List ℕ) (rtype from : ℕ) (m : Met) → looked_of now es store name rtype from ≡ l.Found m
    → (m.labels ≡ labels_in (owner_held store m.slot (get_or es m.slot blank))) × (m.first ≡ first_in (owner_held store m.slot (get_or es m.slot blank)))
unfolding looked_of
found_numbers now es store name rtype from m h = go (look_refusal now es store name) refl (look_in now es store name rtype from) refl h
  where
    go : (n : ℕ) → look_refusal now es store name ≡ n → (x : Option ℕ) → look_in now es store name rtype from ≡ x → looked_with name n x ≡ l.Found m
        → (m.labels ≡ labels_in (owner_held store m.slot (get_or es m.slot blank))) × (m.first ≡ first_in (owner_held store m.slot (get_or es m.slot blank)))
    go zero r (Some i) k h =
        let at : m.slot ≡ i = cc in
        let labels : m.labels ≡ labels_in name = cc in
        let first : m.first ≡ first_in name = cc in
        let n = owner_numbers now es store name rtype from i (look-accepted now es store name r).2 k in (
          labels ∙ n.0 ∙ ap (λ (j : ℕ). labels_in (owner_held store j (get_or es j blank))) (sym at),
          first ∙ n.1 ∙ ap (λ (j : ℕ). first_in (owner_held store j (get_or es j blank))) (sym at),
        )
    go zero r None k h = let z : ◌≡◌ {A = ℕ} 0 1 = cc in absurd (omega arith)
    go (suc n) r (Some i) k h =
        let some : suc n ≡ 0 → ⊥ = λ z. omega arith in
        let e : l.Refused (suc n) ≡ l.Found m = sym (simp (ne_eqb (suc n) 0 some)) ∙ h in let z : ◌≡◌ {A = ℕ} 0 1 = cc in absurd (omega arith)
    go (suc n) r None k h =
        let some : suc n ≡ 0 → ⊥ = λ z. omega arith in
        let e : l.Refused (suc n) ≡ l.Found m = sym (simp (ne_eqb (suc n) 0 some)) ∙ h in let z : ◌≡◌ {A = ℕ} 0 1 = cc in absurd (omega arith)

-- lookups for which the premises hold: the entry has the owner "A", the name is "a"
abbrev kept : List Entry
kept = record { rtype = 1; owner = 3; rdata = 0; received = 0; expiry = 1000; ttl = 1 } ∷ []

abbrev bytes : List ℕ
bytes = 1 ∷ 65 ∷ 0 ∷ replicate 1021 0

abbrev sought : List ℕ
sought = 1 ∷ 97 ∷ 0 ∷ []

owner_witness : (is_name sought ≡ true) × (look_in 0 kept bytes sought 1 0 ≡ Some 0)
unfolding labels_fill look_in lowest matches live_of is_of same_name
owner_witness = (refl, refl)

found_witness : looked_of 0 kept bytes sought 1 0 ≡ l.Found (record { slot = 0; labels = 1; first = 1 })
unfolding looked_of look_refusal is_size is_store_of some labels_fill look_in lowest matches live_of is_of same_name starts
found_witness = refl
