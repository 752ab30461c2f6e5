-- Theorems on the slot of a record, and lemmas on slots of the store and on single entries of a table. Assumes nothing.
use Rattle.std.proofs.Common.{Some}
use mathlib.Core.Path.{◌≡◌, refl, sym, ap, ◌∙◌}
use mathlib.Core.List.{List, [], ◌∷◌, ◌++◌, append_assoc}
use mathlib.Core.Bool.{Bool, true, false, cond}
use mathlib.Core.Logic.{◌⊎◌, inl, inr}
use Prim.Native.Nat.{ℕ, zero, suc, ◌+◌, ◌-◌, ◌*◌, ◌<◌, ◌≤◌}
use native.Mathlib.Nat.{add-zero, zero-add}
use native.Mathlib.Omega.{arith}
use lib.ListN.{length, get_or, set, take, drop, replicate, length-replicate}
use lib.Seq.{sets, length-sets, sets-eq, take_at, drop_at, take-set-le, drop-set-lt, drop-set-add, get_or-set_same, get_or-set_other, length-take-le}
use lib.Dec.{eqb, ltb}
use borrow.Author.Tests.{eqb-true, eqb-false, ltb-true, ltb-false}
use Rattle.wire.proofs.octets.Sets.{drop-replicate}
use Rattle.wire.specs.message.Message.{Record}
use Rattle.cache.specs.entries.Entries.{blank, slot_of}
use Rattle.cache.specs.entries.Tables.{lowest, each}
use Rattle.cache.specs.entries.Cache.{slot_for}
use Rattle.cache.specs.declared.entries.Entry.{Entry}
use Rattle.cache.specs.laws.Slots.{OwnerBack, RdataBack, UnusedOwner, UnusedRdata}

-- ---- bytes

-- what was written is read back
pub read_back : (l : List ℕ) (i : ℕ) (vs : List ℕ) → i + length vs ≤ length l → take (length vs) (drop i (sets l i vs)) ≡ vs
read_back l i vs h =
    ap (λ (k : List ℕ). take (length vs) (drop i k)) (sets-eq vs l i h ∙ append_assoc (take i l) vs (drop (i + length vs) l))
    ∙ ap (take (length vs)) (drop_at (take i l) (vs ++ drop (i + length vs) l) i (length-take-le i l (omega arith)))
    ∙ take_at vs (drop (i + length vs) l) (length vs) refl

-- a part that a store does not meet is as it was
part_set : (l : List ℕ) (i : ℕ) (a : ℕ) (k n : ℕ) → (i < k) ⊎ (k + n ≤ i) → take n (drop k (set l i a)) ≡ take n (drop k l)
part_set l i a k n (inl h) = ap (take n) (drop-set-lt k l i a h)
part_set l i a k n (inr h) =
    let e : i ≡ k + (i - k) = omega arith in
    ap (λ (j : ℕ). take n (drop k (set l j a))) e ∙ ap (take n) (drop-set-add k l (i - k) a) ∙ take-set-le n (drop k l) (i - k) a (omega arith)

pub part_sets : (l : List ℕ) (i : ℕ) (vs : List ℕ) (k n : ℕ) → (i + length vs ≤ k) ⊎ (k + n ≤ i) → take n (drop k (sets l i vs)) ≡ take n (drop k l)
part_sets l i [] k n h = refl
part_sets l i (v ∷ vs) k n (inl h) = part_sets (set l i v) (suc i) vs k n (inl (omega arith)) ∙ part_set l i v k n (inl (omega arith))
part_sets l i (v ∷ vs) k n (inr h) = part_sets (set l i v) (suc i) vs k n (inr (omega arith)) ∙ part_set l i v k n (inr h)

pub length-slot : (x : Record) → length (slot_for x) ≡ 1024
length-slot x = length-sets (sets (replicate 1024 0) 0 x.owner) 256 x.rdata ∙ length-sets (replicate 1024 0) 0 x.owner ∙ length-replicate {A = ℕ} 1024 0

-- a slot that was written holds what was written, and the others are as they were
pub slot-written : (store : List ℕ) (i : ℕ) (x : Record) → 1024 * i + 1024 ≤ length store → slot_of (sets store (1024 * i) (slot_for x)) i ≡ slot_for x
slot-written store i x h =
    let n = length-slot x in
    ap (λ (k : ℕ). take k (drop (1024 * i) (sets store (1024 * i) (slot_for x)))) (sym n) ∙ read_back store (1024 * i) (slot_for x) (omega (arith, n))

pub slot-other : (store : List ℕ) (i j : ℕ) (x : Record) → (i ≡ j → ⊥) → slot_of (sets store (1024 * i) (slot_for x)) j ≡ slot_of store j
slot-other store i j x z = part_sets store (1024 * i) (slot_for x) (1024 * j) 1024 (go (ltb i j) (ltb j i) refl refl)
  where
    go : (a b : Bool) → ltb i j ≡ a → ltb j i ≡ b → (1024 * i + length (slot_for x) ≤ 1024 * j) ⊎ (1024 * j + 1024 ≤ 1024 * i)
    go true b e f = inl (omega (arith, length-slot x, ltb-true i j e))
    go false true e f = inr (omega (arith, ltb-true j i f))
    go false false e f = absurd (z (omega (arith, ltb-false i j e, ltb-false j i f)))

take-replicate : (k m : ℕ) → k ≤ m → take {A = ℕ} k (replicate m 0) ≡ replicate k 0
take-replicate zero m h = refl
take-replicate (suc k) zero h = absurd (omega arith)
take-replicate (suc k) (suc m) h = ap (λ (l : List ℕ). 0 ∷ l) (take-replicate k m (omega arith))

-- the slot of a record
pub owner_back : OwnerBack
owner_back x short fits =
    part_sets (sets (replicate 1024 0) 0 x.owner) 256 x.rdata 0 (length x.owner) (inr (omega arith))
    ∙ read_back (replicate 1024 0) 0 x.owner (omega (arith, length-replicate {A = ℕ} 1024 0))

pub rdata-back : RdataBack
rdata-back x short fits =
    let n : length (sets (replicate 1024 0) 0 x.owner) ≡ 1024 = length-sets (replicate 1024 0) 0 x.owner ∙ length-replicate {A = ℕ} 1024 0 in
    read_back (sets (replicate 1024 0) 0 x.owner) 256 x.rdata (omega (arith, n))

pub unused_owner : UnusedOwner
unused_owner x short fits =
    let o = length x.owner in
    part_sets (sets (replicate 1024 0) 0 x.owner) 256 x.rdata o (256 - o) (inr (omega arith))
    ∙ part_sets (replicate 1024 0) 0 x.owner o (256 - o) (inl (omega arith))
    ∙ ap (take (256 - o)) (drop-replicate o 1024 0) ∙ take-replicate (256 - o) (1024 - o) (omega arith)

pub unused_rdata : UnusedRdata
unused_rdata x short fits =
    let d = length x.rdata in
    part_sets (sets (replicate 1024 0) 0 x.owner) 256 x.rdata (256 + d) (768 - d) (inl (omega arith))
    ∙ part_sets (replicate 1024 0) 0 x.owner (256 + d) (768 - d) (inl (omega arith))
    ∙ ap (take (768 - d)) (drop-replicate (256 + d) 1024 0) ∙ take-replicate (768 - d) (1024 - (256 + d)) (omega arith)

-- ---- entries

-- an entry after a store to a slot: the one stored, or as it was
pub at_set : (es : List Entry) (i j : ℕ) (e : Entry) → i < length es → ((j ≡ i) × (get_or (set es j e) i blank ≡ e)) ⊎ (get_or (set es j e) i blank ≡ get_or es i blank)
at_set es i j e h = go (eqb i j) refl
  where
    go : (b : Bool) → eqb i j ≡ b → ((j ≡ i) × (get_or (set es j e) i blank ≡ e)) ⊎ (get_or (set es j e) i blank ≡ get_or es i blank)
    go true k =
        let s : i ≡ j = eqb-true i j k in
        inl (sym s, ap (λ (m : ℕ). get_or (set es m e) i blank) (sym s) ∙ get_or-set_same es i e blank h)
    go false k = inr (get_or-set_other es j i e blank (eqb-false i j k))

-- an entry after a rule on every entry
at-each_from : (rule : ℕ → Entry → Entry) (k : ℕ) (es : List Entry) (i : ℕ) → i < length es → get_or (each rule k es) i blank ≡ rule (k + i) (get_or es i blank)
unfolding each
at-each_from rule k [] i h = absurd (omega arith)
at-each_from rule k (e ∷ es) zero h = ap (λ (m : ℕ). rule m e) (sym (add-zero k))
at-each_from rule k (e ∷ es) (suc i) h = at-each_from rule (suc k) es i (omega arith) ∙ ap (λ (m : ℕ). rule m (get_or es i blank)) (omega arith)

pub at_each : (rule : ℕ → Entry → Entry) (es : List Entry) (i : ℕ) → i < length es → get_or (each rule 0 es) i blank ≡ rule i (get_or es i blank)
at_each rule es i h = at-each_from rule 0 es i h ∙ ap (λ (m : ℕ). rule m (get_or es i blank)) (zero-add i)

-- a rule that does not change what a test says does not change what a search finds
pub lowest-each : (test : ℕ → Entry → Bool) (rule : ℕ → Entry → Entry) → ((j : ℕ) (e : Entry) → test j (rule j e) ≡ test j e) → (k : ℕ) (es : List Entry) → lowest test k (each rule k es) ≡ lowest test k es
unfolding lowest each
lowest-each test rule same k [] = refl
lowest-each test rule same k (e ∷ es) = simp (same k e) (ap (cond (test k e) (Some k)) (lowest-each test rule same (suc k) es))
