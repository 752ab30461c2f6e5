-- Sorting by a total order: the sorted list is in order, has the same elements, repeats with them, and does not depend on the order in which they
-- came. Assumes nothing.
use Rattle.std.specs.declared.cmp.Ordering.{Ordering}
use Rattle.std.specs.declared.cmp.Ordering.TheVariants.{Less, Equal, Greater}
use mathlib.Core.Path.{◌≡◌, refl, sym, ap, ◌∙◌}
use mathlib.Core.List.Permᴰ
use mathlib.Core.List.{List, [], ◌∷◌, Permᴰ}
use mathlib.Core.Bool.{Bool, true, false, cond}
use Prim.Native.Nat.{ℕ}
use native.Mathlib.Omega.{arith}
use Rattle.facts.specs.tiebreak.Later.{is_later, insert_by, sort_by}
use Rattle.facts.proofs.tiebreak.Orders.{opposite, Order}

-- an element that none of a list is earlier than
pub data Least {A : Type 0} (by : A → A → Ordering) (x : A) : List A → Type 0 where
  none : Least by x []
  and : {y : A} {ys : List A} → is_later (by x y) ≡ false → Least by x ys → Least by x (y ∷ ys)

-- a list in order: each element is one that no later one is earlier than
pub data Sorted {A : Type 0} (by : A → A → Ordering) : List A → Type 0 where
  empty : Sorted by []
  first : {x : A} {xs : List A} → Least by x xs → Sorted by xs → Sorted by (x ∷ xs)

module _ {A : Type 0} (by : A → A → Ordering) (o : Order by) where
  -- an element is put before another, or behind it
  before-it : (x y : A) (ys : List A) → is_later (by x y) ≡ false → insert_by by x (y ∷ ys) ≡ x ∷ (y ∷ ys)
  unfolding insert_by
  before-it x y ys e = simp e

  behind-it : (x y : A) (ys : List A) → is_later (by x y) ≡ true → insert_by by x (y ∷ ys) ≡ y ∷ insert_by by x ys
  unfolding insert_by
  behind-it x y ys e = simp e

  -- what verdicts say of not being later
  pub not-later_swap : (x y : A) → is_later (by x y) ≡ true → is_later (by y x) ≡ false
  not-later_swap x y e = rw (o.swap x y) (go (by x y) e)
    where
      go : (v : Ordering) → is_later v ≡ true → is_later (opposite v) ≡ false
      go Less e = let z : ◌≡◌ {A = ℕ} 0 1 = cc in absurd (omega arith)
      go Equal e = let z : ◌≡◌ {A = ℕ} 0 1 = cc in absurd (omega arith)
      go Greater e = refl

  pub not-later_trans : (x y z : A) → is_later (by x y) ≡ false → is_later (by y z) ≡ false → is_later (by x z) ≡ false
  not-later_trans x y z e f = go (by x y) (by y z) refl refl e f
    where
      go : (u v : Ordering) → by x y ≡ u → by y z ≡ v → is_later u ≡ false → is_later v ≡ false → is_later (by x z) ≡ false
      go Less Less a b e f = rw (o.trans x y z a b)
      go Less Equal a b e f = ap is_later (ap (by x) (sym (o.equal y z b)) ∙ a)
      go Less Greater a b e f = let z : ◌≡◌ {A = ℕ} 0 1 = cc in absurd (omega arith)
      go Equal v a b e f = ap is_later (ap (λ (t : A). by t z) (o.equal x y a) ∙ b) ∙ f
      go Greater v a b e f = let z : ◌≡◌ {A = ℕ} 0 1 = cc in absurd (omega arith)

  -- neither is later than the other: they are equal
  both-not_later : (x y : A) → is_later (by x y) ≡ false → is_later (by y x) ≡ false → x ≡ y
  both-not_later x y e f = go (by x y) refl e (sym (ap is_later (o.swap x y)) ∙ f)
    where
      go : (v : Ordering) → by x y ≡ v → is_later v ≡ false → is_later (opposite v) ≡ false → x ≡ y
      go Less a e f = let z : ◌≡◌ {A = ℕ} 0 1 = cc in absurd (omega arith)
      go Equal a e f = o.equal x y a
      go Greater a e f = let z : ◌≡◌ {A = ℕ} 0 1 = cc in absurd (omega arith)

  least-of : (x y : A) (ys : List A) → is_later (by x y) ≡ false → Least by y ys → Least by x ys
  least-of x y [] e none = none
  least-of x y (z ∷ ys) e (and f l) = and (not-later_trans x y z e f) (least-of x y ys e l)

  -- the sorted list is in order
  least-insert : (x z : A) (ys : List A) → is_later (by z x) ≡ false → Least by z ys → Least by z (insert_by by x ys)
  unfolding insert_by
  least-insert x z [] e none = and e none
  least-insert x z (y ∷ ys) e (and f l) = go (is_later (by x y)) (least-insert x z ys e l)
    where
      go : (b : Bool) → Least by z (insert_by by x ys) → Least by z (cond b (y ∷ insert_by by x ys) (x ∷ (y ∷ ys)))
      go true again = and f again
      go false again = and e (and f l)

  insert_sorted : (x : A) (ys : List A) → Sorted by ys → Sorted by (insert_by by x ys)
  unfolding insert_by
  insert_sorted x [] empty = first none empty
  insert_sorted x (y ∷ ys) (first l s) = go (is_later (by x y)) refl (insert_sorted x ys s)
    where
      go : (b : Bool) → is_later (by x y) ≡ b → Sorted by (insert_by by x ys) → Sorted by (cond b (y ∷ insert_by by x ys) (x ∷ (y ∷ ys)))
      go true e again = first (least-insert x y ys (not-later_swap x y e) l) again
      go false e again = first (and e (least-of x y ys e l)) (first l s)

  pub sort_sorted : (xs : List A) → Sorted by (sort_by by xs)
  unfolding sort_by
  sort_sorted [] = empty
  sort_sorted (x ∷ xs) = insert_sorted x (sort_by by xs) (sort_sorted xs)

  -- a list in order is its own sorted list
  insert_least : (x : A) (ys : List A) → Least by x ys → insert_by by x ys ≡ x ∷ ys
  unfolding insert_by
  insert_least x [] none = refl
  insert_least x (y ∷ ys) (and e l) = before-it x y ys e

  pub sorted_sort : (xs : List A) → Sorted by xs → sort_by by xs ≡ xs
  unfolding sort_by
  sorted_sort [] empty = refl
  sorted_sort (x ∷ xs) (first l s) = ap (insert_by by x) (sorted_sort xs s) ∙ insert_least x xs l

  -- it has the same elements, repeats with them
  insert_perm : (x : A) (ys : List A) → Permᴰ (insert_by by x ys) (x ∷ ys)
  unfolding insert_by
  insert_perm x [] = Permᴰ.refl (x ∷ [])
  insert_perm x (y ∷ ys) = go (is_later (by x y)) (insert_perm x ys)
    where
      go : (b : Bool) → Permᴰ (insert_by by x ys) (x ∷ ys) → Permᴰ (cond b (y ∷ insert_by by x ys) (x ∷ (y ∷ ys))) (x ∷ (y ∷ ys))
      go true again = Permᴰ.trans (Permᴰ.cons refl again) (Permᴰ.swap refl refl)
      go false again = Permᴰ.refl (x ∷ (y ∷ ys))

  pub sort_perm : (xs : List A) → Permᴰ (sort_by by xs) xs
  unfolding sort_by
  sort_perm [] = Permᴰ.nil
  sort_perm (x ∷ xs) = Permᴰ.trans (insert_perm x (sort_by by xs)) (Permᴰ.cons refl (sort_perm xs))

  -- of two elements it does not matter which is inserted first
  insert_turn : (x y z : A) (zs : List A) → is_later (by x y) ≡ false → is_later (by y x) ≡ true → (a b : Bool) → is_later (by y z) ≡ a → is_later (by x z) ≡ b
      → insert_by by x (insert_by by y zs) ≡ insert_by by y (insert_by by x zs) → insert_by by x (insert_by by y (z ∷ zs)) ≡ insert_by by y (insert_by by x (z ∷ zs))
  insert_turn x y z zs e f true true a b again =
      ap (insert_by by x) (behind-it y z zs a) ∙ behind-it x z (insert_by by y zs) b ∙ ap (λ (t : List A). z ∷ t) again
      ∙ sym (behind-it y z (insert_by by x zs) a) ∙ ap (insert_by by y) (sym (behind-it x z zs b))
  insert_turn x y z zs e f true false a b again =
      ap (insert_by by x) (behind-it y z zs a) ∙ before-it x z (insert_by by y zs) b ∙ ap (λ (t : List A). x ∷ t) (sym (behind-it y z zs a))
      ∙ sym (behind-it y x (z ∷ zs) f) ∙ ap (insert_by by y) (sym (before-it x z zs b))
  insert_turn x y z zs e f false c a b again =
      let g : is_later (by x z) ≡ false = not-later_trans x y z e a in
      ap (insert_by by x) (before-it y z zs a) ∙ before-it x y (z ∷ zs) e ∙ ap (λ (t : List A). x ∷ t) (sym (before-it y z zs a))
      ∙ sym (behind-it y x (z ∷ zs) f) ∙ ap (insert_by by y) (sym (before-it x z zs g))

  insert_apart : (x y : A) (zs : List A) → is_later (by x y) ≡ false → is_later (by y x) ≡ true
      → insert_by by x (insert_by by y zs) ≡ insert_by by y (insert_by by x zs)
  unfolding insert_by
  insert_apart x y [] e f = before-it x y [] e ∙ sym (behind-it y x [] f)
  insert_apart x y (z ∷ zs) e f = insert_turn x y z zs e f (is_later (by y z)) (is_later (by x z)) refl refl (insert_apart x y zs e f)

  insert_ordered : (x y : A) (zs : List A) → is_later (by x y) ≡ false → insert_by by x (insert_by by y zs) ≡ insert_by by y (insert_by by x zs)
  insert_ordered x y zs e = go (is_later (by y x)) refl
    where
      go : (b : Bool) → is_later (by y x) ≡ b → insert_by by x (insert_by by y zs) ≡ insert_by by y (insert_by by x zs)
      go true f = insert_apart x y zs e f
      go false f =
          let same : x ≡ y = both-not_later x y e f in
          ap (λ (t : A). insert_by by t (insert_by by y zs)) same ∙ ap (λ (t : A). insert_by by y (insert_by by t zs)) (sym same)

  insert_either : (x y : A) (zs : List A) → insert_by by x (insert_by by y zs) ≡ insert_by by y (insert_by by x zs)
  insert_either x y zs = go (is_later (by x y)) refl
    where
      go : (b : Bool) → is_later (by x y) ≡ b → insert_by by x (insert_by by y zs) ≡ insert_by by y (insert_by by x zs)
      go true e = sym (insert_ordered y x zs (not-later_swap x y e))
      go false e = insert_ordered x y zs e

  -- lists that are permutations of each other have one sorted list
  pub perm_sort : {xs ys : List A} → Permᴰ xs ys → sort_by by xs ≡ sort_by by ys
  unfolding sort_by
  perm_sort Permᴰ.nil = refl
  perm_sort (Permᴰ.cons {a} {b} {l₁} {l₂} e d) = ap (λ (t : A). insert_by by t (sort_by by l₁)) e ∙ ap (insert_by by b) (perm_sort d)
  perm_sort (Permᴰ.swap {a} {b} {a'} {b'} {l} e f) =
      insert_either a b (sort_by by l) ∙ ap (λ (t : A). insert_by by t (insert_by by a (sort_by by l))) f
      ∙ ap (λ (t : A). insert_by by a' (insert_by by t (sort_by by l))) e
  perm_sort (Permᴰ.trans d f) = perm_sort d ∙ perm_sort f
