-- The verdict from counts: how many records there are, how many stand earlier than an own record, and how many equal it, say what stands at each
-- place of the sorted list. Assumes nothing.
use Rattle.std.specs.declared.cmp.Ordering.{Ordering}
use Rattle.std.specs.declared.cmp.Ordering.TheVariants.{Less, Equal, Greater}
use mathlib.Core.Path.{◌≡◌, refl, sym, ap, ◌∙◌}
use mathlib.Core.List.{List, [], ◌∷◌, Permᴰ}
use mathlib.Core.Bool.{Bool, true, false, cond}
use Prim.Native.Nat.{ℕ, zero, suc, ◌+◌, ◌<◌, ◌≤◌}
use native.Mathlib.Nat.{zero-add}
use native.Mathlib.Omega.{arith}
use lib.ListN.{length, drop}
use lib.Dec.{ltb}
use borrow.Author.Tests.{lt-ltb, le-ltb, ltb-true, ltb-false}
use Rattle.facts.specs.declared.tiebreak.Counts.{Counts}
use Rattle.facts.specs.tiebreak.Later.{is_later, unless_same, in_turn, TieRecord, compare_records, insert_by, sort_by, tie}
use Rattle.facts.specs.tiebreak.Counts.{count_one, count_all, none_counted, placed, beyond}
use Rattle.facts.proofs.tiebreak.Orders.{opposite, records-order}
use Rattle.facts.proofs.tiebreak.Sorting.{Least, none, and, Sorted, empty, first, not-later_swap, not-later_trans, sort_sorted, sort_perm}

-- counts without sums on the way
abbrev one_earlier_lem : Ordering → ℕ
one_earlier_lem Less = 1
one_earlier_lem Equal = 0
one_earlier_lem Greater = 0

abbrev one_same_lem : Ordering → ℕ
one_same_lem Less = 0
one_same_lem Equal = 1
one_same_lem Greater = 0

unfoldable earlier_in : TieRecord → List TieRecord → ℕ
earlier_in x [] = 0
earlier_in x (t ∷ ts) = one_earlier_lem (compare_records t x) + earlier_in x ts

unfoldable same_in : TieRecord → List TieRecord → ℕ
same_in x [] = 0
same_in x (t ∷ ts) = one_same_lem (compare_records t x) + same_in x ts

abbrev counts : TieRecord → List TieRecord → Counts
counts x l = record { all = length l; earlier = earlier_in x l; same = same_in x l }

abbrev on_top_lem : Counts → Counts → Counts
on_top_lem c d = record { all = c.all + d.all; earlier = c.earlier + d.earlier; same = c.same + d.same }

on_top : (x : TieRecord) (l : List TieRecord) (c : Counts) → count_all x l c ≡ on_top_lem c (counts x l)
unfolding count_all earlier_in same_in
on_top x [] c = λ i. record { all = a i; earlier = e i; same = s i }
  where
    a : c.all ≡ c.all + 0
    a = omega arith

    e : c.earlier ≡ c.earlier + 0
    e = omega arith

    s : c.same ≡ c.same + 0
    s = omega arith
on_top x (t ∷ ts) c = on_top x ts (count_one (compare_records t x) c) ∙ go (compare_records t x)
  where
    three : (a₁ a₂ e₁ e₂ s₁ s₂ : ℕ) → a₁ ≡ a₂ → e₁ ≡ e₂ → s₁ ≡ s₂
        → ◌≡◌ {A = Counts} (record { all = a₁; earlier = e₁; same = s₁ }) (record { all = a₂; earlier = e₂; same = s₂ })
    three a₁ a₂ e₁ e₂ s₁ s₂ a e s = λ i. record { all = a i; earlier = e i; same = s i }

    go : (v : Ordering)
        → on_top_lem (count_one v c) (counts x ts)
        ≡ on_top_lem c (record { all = suc (length ts); earlier = one_earlier_lem v + earlier_in x ts; same = one_same_lem v + same_in x ts })
    go Less = three _ _ _ _ _ _ (omega arith) (omega arith) (omega arith)
    go Equal = three _ _ _ _ _ _ (omega arith) (omega arith) (omega arith)
    go Greater = three _ _ _ _ _ _ (omega arith) (omega arith) (omega arith)

counted : (x : TieRecord) (l : List TieRecord) → count_all x l none_counted ≡ counts x l
counted x l = on_top x l none_counted ∙ (λ i. record { all = zero-add (length l) i; earlier = zero-add (earlier_in x l) i; same = zero-add (same_in x l) i })

-- the order of the records does not matter to the counts
perm_earlier : (x : TieRecord) {l m : List TieRecord} → Permᴰ l m → earlier_in x l ≡ earlier_in x m
unfolding earlier_in
perm_earlier x Permᴰ.nil = refl
perm_earlier x (Permᴰ.cons {a} {b} {l₁} {l₂} e d) =
    let k : one_earlier_lem (compare_records a x) ≡ one_earlier_lem (compare_records b x) = ap (λ (t : TieRecord). one_earlier_lem (compare_records t x)) e in
    omega (arith, perm_earlier x d)
perm_earlier x (Permᴰ.swap {a} {b} {a'} {b'} {l} e f) =
    let j : one_earlier_lem (compare_records a x) ≡ one_earlier_lem (compare_records b' x) = ap (λ (t : TieRecord). one_earlier_lem (compare_records t x)) e in
    let k : one_earlier_lem (compare_records b x) ≡ one_earlier_lem (compare_records a' x) = ap (λ (t : TieRecord). one_earlier_lem (compare_records t x)) f in
    omega arith
perm_earlier x (Permᴰ.trans d f) = perm_earlier x d ∙ perm_earlier x f

perm_same : (x : TieRecord) {l m : List TieRecord} → Permᴰ l m → same_in x l ≡ same_in x m
unfolding same_in
perm_same x Permᴰ.nil = refl
perm_same x (Permᴰ.cons {a} {b} {l₁} {l₂} e d) =
    let k : one_same_lem (compare_records a x) ≡ one_same_lem (compare_records b x) = ap (λ (t : TieRecord). one_same_lem (compare_records t x)) e in
    omega (arith, perm_same x d)
perm_same x (Permᴰ.swap {a} {b} {a'} {b'} {l} e f) =
    let j : one_same_lem (compare_records a x) ≡ one_same_lem (compare_records b' x) = ap (λ (t : TieRecord). one_same_lem (compare_records t x)) e in
    let k : one_same_lem (compare_records b x) ≡ one_same_lem (compare_records a' x) = ap (λ (t : TieRecord). one_same_lem (compare_records t x)) f in
    omega arith
perm_same x (Permᴰ.trans d f) = perm_same x d ∙ perm_same x f

perm_length : {l m : List TieRecord} → Permᴰ l m → length l ≡ length m
perm_length Permᴰ.nil = refl
perm_length (Permᴰ.cons e d) = ap suc (perm_length d)
perm_length (Permᴰ.swap e f) = refl
perm_length (Permᴰ.trans d f) = perm_length d ∙ perm_length f

sorted_counts : (x : TieRecord) (l : List TieRecord) → counts x (sort_by compare_records l) ≡ count_all x l none_counted
sorted_counts x l =
    let d = sort_perm compare_records records-order l in
    (λ i. record { all = perm_length d i; earlier = perm_earlier x d i; same = perm_same x d i }) ∙ sym (counted x l)

-- what stands at a place, by the counts
module _ (k : ℕ) (c : Counts) where
  pub placed-earlier : k < c.earlier → placed k c ≡ Less
  unfolding placed
  placed-earlier h = simp (lt-ltb k c.earlier h)

  pub placed_same : c.earlier ≤ k → k < c.earlier + c.same → placed k c ≡ Equal
  unfolding placed
  placed_same g h = simp (le-ltb k c.earlier g, lt-ltb k (c.earlier + c.same) h)

  pub placed-later : c.earlier + c.same ≤ k → k < c.all → placed k c ≡ Greater
  unfolding placed
  placed-later g h =
      let f : c.earlier ≤ k = omega arith in
      simp (le-ltb k c.earlier f, le-ltb k (c.earlier + c.same) g, lt-ltb k c.all h)

  pub placed-out : c.earlier + c.same ≤ k → c.all ≤ k → placed k c ≡ Less
  unfolding placed
  placed-out g h =
      let f : c.earlier ≤ k = omega arith in
      simp (le-ltb k c.earlier f, le-ltb k (c.earlier + c.same) g, le-ltb k c.all h)

  pub beyond-more : k < c.all → beyond k c ≡ Greater
  unfolding beyond
  beyond-more h = simp (lt-ltb k c.all h)

  pub beyond-none : c.all ≤ k → beyond k c ≡ Equal
  unfolding beyond
  beyond-none h = simp (le-ltb k c.all h)

-- one record at the front moves every place by one
ltb-on : (k m n : ℕ) → (k < m → suc k < n) → (m ≤ k → n ≤ suc k) → ltb k m ≡ ltb (suc k) n
ltb-on k m n f g = go (ltb k m) refl
  where
    go : (b : Bool) → ltb k m ≡ b → b ≡ ltb (suc k) n
    go true e = sym (lt-ltb (suc k) n (f (ltb-true k m e)))
    go false e = sym (le-ltb (suc k) n (g (ltb-false k m e)))

placed_on : (k : ℕ) (c d : Counts) → ltb k c.earlier ≡ ltb (suc k) d.earlier → ltb k (c.earlier + c.same) ≡ ltb (suc k) (d.earlier + d.same)
    → ltb k c.all ≡ ltb (suc k) d.all → placed k c ≡ placed (suc k) d
unfolding placed
placed_on k c d e f g = rw (e, f, g)

module _ (k a e s : ℕ) where
  on_earlier : placed k (record { all = a; earlier = e; same = s }) ≡ placed (suc k) (record { all = suc a; earlier = 1 + e; same = 0 + s })
  on_earlier =
      placed_on k (record { all = a; earlier = e; same = s }) (record { all = suc a; earlier = 1 + e; same = 0 + s })
      (ltb-on k e (1 + e) (λ h. omega arith) (λ h. omega arith))
      (ltb-on k (e + s) (1 + e + (0 + s)) (λ h. omega arith) (λ h. omega arith))
      (ltb-on k a (suc a) (λ h. omega arith) (λ h. omega arith))

  on_same : e ≡ 0 → placed k (record { all = a; earlier = e; same = s }) ≡ placed (suc k) (record { all = suc a; earlier = 0 + e; same = 1 + s })
  on_same u =
      placed_on k (record { all = a; earlier = e; same = s }) (record { all = suc a; earlier = 0 + e; same = 1 + s })
      (ltb-on k e (0 + e) (λ h. omega arith) (λ h. omega arith))
      (ltb-on k (e + s) (0 + e + (1 + s)) (λ h. omega arith) (λ h. omega arith))
      (ltb-on k a (suc a) (λ h. omega arith) (λ h. omega arith))

  on_later : e ≡ 0 → s ≡ 0 → placed k (record { all = a; earlier = e; same = s }) ≡ placed (suc k) (record { all = suc a; earlier = 0 + e; same = 0 + s })
  on_later u v =
      placed_on k (record { all = a; earlier = e; same = s }) (record { all = suc a; earlier = 0 + e; same = 0 + s })
      (ltb-on k e (0 + e) (λ h. omega arith) (λ h. omega arith))
      (ltb-on k (e + s) (0 + e + (0 + s)) (λ h. omega arith) (λ h. omega arith))
      (ltb-on k a (suc a) (λ h. omega arith) (λ h. omega arith))

module _ (x : TieRecord) where
  -- behind a record that is not earlier than x, none is earlier than x
  none-earlier : (s : TieRecord) (ss : List TieRecord) → Least compare_records s ss → is_later (compare_records x s) ≡ false → earlier_in x ss ≡ 0
  unfolding earlier_in
  none-earlier s [] none h = refl
  none-earlier s (t ∷ ts) (and e l) h = go (compare_records x t) refl (not-later_trans compare_records records-order x s t h e) (none-earlier s ts l h)
    where
      go : (v : Ordering) → compare_records x t ≡ v → is_later (compare_records x t) ≡ false → earlier_in x ts ≡ 0
          → one_earlier_lem (compare_records t x) + earlier_in x ts ≡ 0
      go Less e f again = rw (records-order.swap x t, e) (zero-add (earlier_in x ts) ∙ again)
      go Equal e f again = rw (records-order.swap x t, e) (zero-add (earlier_in x ts) ∙ again)
      go Greater e f again = let z : ◌≡◌ {A = ℕ} 0 1 = cc in absurd (omega arith)

  -- behind a record that is later than x, none is the same as x
  none-same : (s : TieRecord) (ss : List TieRecord) → Least compare_records s ss → is_later (compare_records s x) ≡ true → same_in x ss ≡ 0
  unfolding same_in
  none-same s [] none h = refl
  none-same s (t ∷ ts) (and e l) h = go (compare_records t x) refl (none-same s ts l h)
    where
      go : (v : Ordering) → compare_records t x ≡ v → same_in x ts ≡ 0 → one_same_lem v + same_in x ts ≡ 0
      go Less f again = zero-add (same_in x ts) ∙ again
      go Equal f again =
          let no : is_later (compare_records s x) ≡ false = not-later_trans compare_records records-order s t x e (ap is_later f) in
          let z : ◌≡◌ {A = ℕ} 0 1 = cc in absurd (omega arith)
      go Greater f again = zero-add (same_in x ts) ∙ again

  -- the place `k` of a list in order is compared with x as the counts say
  at_place : (k : ℕ) (ss xs : List TieRecord) → Sorted compare_records ss
      → in_turn compare_records (drop k ss) (x ∷ xs) ≡ unless_same (placed k (counts x ss)) (in_turn compare_records (drop (suc k) ss) xs)
  unfolding in_turn earlier_in same_in
  at_place zero [] xs empty = rw (placed-out 0 (counts x []) (omega arith) (omega arith))
  at_place (suc k) [] xs empty = rw (placed-out (suc k) (counts x []) (omega arith) (omega arith))
  at_place zero (s ∷ ss) xs (first l sd) = go (compare_records s x) refl
    where
      go : (v : Ordering) → compare_records s x ≡ v
          → unless_same (compare_records s x) (in_turn compare_records ss xs) ≡ unless_same (placed 0 (counts x (s ∷ ss))) (in_turn compare_records ss xs)
      go Less e = rw (placed-earlier 0 (counts x (s ∷ ss)) (rw e (omega arith)), e)
      go Equal e =
          let back : compare_records x s ≡ Equal = records-order.swap s x ∙ ap opposite e in
          rw (placed_same 0 (counts x (s ∷ ss)) (rw (e, none-earlier s ss l (ap is_later back)) (omega arith)) (rw e (omega arith)), e)
      go Greater e =
          let back : compare_records x s ≡ Less = records-order.swap s x ∙ ap opposite e in
          rw (
            placed-later 0 (counts x (s ∷ ss)) (rw (e, none-earlier s ss l (ap is_later back), none-same s ss l (ap is_later e))
                (omega arith)) (omega arith),
            e,
          )
  at_place (suc k) (s ∷ ss) xs (first l sd) =
      at_place k ss xs sd ∙ ap (λ (v : Ordering). unless_same v (in_turn compare_records (drop (suc k) ss) xs)) (go (compare_records s x) refl)
    where
      go : (v : Ordering) → compare_records s x ≡ v → placed k (counts x ss) ≡ placed (suc k) (counts x (s ∷ ss))
      go Less e = rw e (on_earlier k (length ss) (earlier_in x ss) (same_in x ss))
      go Equal e =
          let back : compare_records x s ≡ Equal = records-order.swap s x ∙ ap opposite e in
          rw e (on_same k (length ss) (earlier_in x ss) (same_in x ss) (none-earlier s ss l (ap is_later back)))
      go Greater e =
          let back : compare_records x s ≡ Less = records-order.swap s x ∙ ap opposite e in
          rw e (on_later k (length ss) (earlier_in x ss) (same_in x ss) (none-earlier s ss l (ap is_later back)) (none-same s ss l (ap is_later e)))

  -- past the own list
  past_place : (k : ℕ) (ss : List TieRecord) → in_turn compare_records (drop k ss) [] ≡ beyond k (counts x ss)
  unfolding in_turn beyond
  past_place zero [] = sym (beyond-none 0 (counts x []) (omega arith))
  past_place (suc k) [] = sym (beyond-none (suc k) (counts x []) (omega arith))
  past_place zero (s ∷ ss) = sym (beyond-more 0 (counts x (s ∷ ss)) (omega arith))
  past_place (suc k) (s ∷ ss) =
      past_place k ss ∙ ap (λ (b : Bool). cond b Greater Equal) (ltb-on k (length ss) (suc (length ss)) (λ h. omega arith) (λ h. omega arith))

-- the tiebreak from the counts, for own lists of one record and of two
module _ (l : List TieRecord) (x : TieRecord) where
  pub tie-one : tie l (x ∷ []) ≡ unless_same (placed 0 (count_all x l none_counted)) (beyond 1 (count_all x l none_counted))
  unfolding tie sort_by insert_by
  tie-one =
      let ss : List TieRecord = sort_by compare_records l in
      at_place x 0 ss [] (sort_sorted compare_records records-order l) ∙ ap (unless_same (placed 0 (counts x ss))) (past_place x 1 ss)
      ∙ ap (λ (c : Counts). unless_same (placed 0 c) (beyond 1 c)) (sorted_counts x l)

  pub tie-two : (y : TieRecord) → is_later (compare_records x y) ≡ false
      → tie l (x ∷ (y ∷ [])) ≡ unless_same (placed 0 (count_all x l none_counted)) (unless_same (placed 1 (count_all y l none_counted)) (beyond 2 (count_all y l none_counted)))
  unfolding tie sort_by insert_by
  tie-two y h =
      let ss : List TieRecord = sort_by compare_records l in
      let sd = sort_sorted compare_records records-order l in
      ap (λ (b : Bool). in_turn compare_records ss (cond b (y ∷ (x ∷ [])) (x ∷ (y ∷ [])))) h
      ∙ at_place x 0 ss (y ∷ []) sd
      ∙ ap (unless_same (placed 0 (counts x ss))) (at_place y 1 ss [] sd ∙ ap (unless_same (placed 1 (counts y ss))) (past_place y 2 ss))
      ∙ ap (λ (c : Counts). unless_same (placed 0 c) (unless_same (placed 1 (counts y ss)) (beyond 2 (counts y ss)))) (sorted_counts x l)
      ∙ ap (λ (c : Counts). unless_same (placed 0 (count_all x l none_counted)) (unless_same (placed 1 c) (beyond 2 c))) (sorted_counts y l)

  -- two own records in the other order
  pub tie-turned : (y : TieRecord) → is_later (compare_records x y) ≡ true → tie l (x ∷ (y ∷ [])) ≡ tie l (y ∷ (x ∷ []))
  unfolding tie sort_by insert_by
  tie-turned y h =
      let k : is_later (compare_records y x) ≡ false = not-later_swap compare_records records-order x y h in
      let ss : List TieRecord = sort_by compare_records l in
      ap (λ (b : Bool). in_turn compare_records ss (cond b (y ∷ (x ∷ [])) (x ∷ (y ∷ [])))) h
      ∙ sym (ap (λ (b : Bool). in_turn compare_records ss (cond b (x ∷ (y ∷ [])) (y ∷ (x ∷ [])))) k)
