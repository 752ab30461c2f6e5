-- The comparison of numbers, of lists in turn and of records is a total order each. Assumes nothing.
use Rattle.std.specs.declared.cmp.Ordering.{Ordering}
use Rattle.std.specs.declared.cmp.Ordering.TheVariants.{Less, Equal, Greater}
use Rattle.std.specs.Ordering.{ordering_reverse, ordering_then, nat_cmp}
use Rattle.std.specs.Cmp.Lexicographic.{slice_cmp}
use mathlib.Core.Path.{◌≡◌, refl, sym, ap, ap₂, ◌∙◌}
use mathlib.Core.List.{List, [], ◌∷◌}
use mathlib.Core.Bool.{Bool, true, false, cond}
use Prim.Native.Nat.{ℕ, ◌<◌, ◌≤◌}
use native.Mathlib.Omega.{arith}
use lib.IntN.{neg_ℤ}
use lib.Dec.{ltb, eqb}
use borrow.Author.Tests.{lt-ltb, le-ltb, ltb-true, ltb-false, eq-eqb, ne_eqb, eqb-true, eqb-false}
use Rattle.facts.specs.tiebreak.Later.{number_of, unless_same, compare_numbers, in_turn, compare_bytes, compare_records}

-- the verdict seen from the other side
abbrev pub opposite : Ordering → Ordering
opposite v = ordering_reverse v

-- its number is the negative one
pub opposite_number : (v : Ordering) → number_of (opposite v) ≡ neg_ℤ (number_of v)
opposite_number Less = refl
opposite_number Equal = refl
opposite_number Greater = refl

-- A comparison that is a total order: swapping negates it, Same says equal and equal says Same, and it is transitive.
pub record Order {A : Type 0} (by : A → A → Ordering) : Type 0 where
  pub swap : (a b : A) → by b a ≡ opposite (by a b)
  pub same : (a : A) → by a a ≡ Equal
  pub equal : (a b : A) → by a b ≡ Equal → a ≡ b
  pub trans : (a b c : A) → by a b ≡ Less → by b c ≡ Less → by a c ≡ Less

-- numbers
pub number-earlier : (a b : ℕ) → a < b → compare_numbers a b ≡ Less
unfolding compare_numbers
number-earlier a b h = simp (lt-ltb a b h)

pub number-later : (a b : ℕ) → b < a → compare_numbers a b ≡ Greater
unfolding compare_numbers
number-later a b h = let k : b ≤ a = omega arith in let n : a ≡ b → ⊥ = (λ e. omega arith) in simp (le-ltb a b k, ne_eqb a b n)

pub number_same : (a b : ℕ) → a ≤ b → b ≤ a → compare_numbers a b ≡ Equal
unfolding compare_numbers
number_same a b h k = let e : a ≡ b = omega arith in simp (le-ltb a b k, eq-eqb a b e)

data Compared (a b : ℕ) : Ordering → Type 0 where
  less : a < b → Compared a b Less
  equal : a ≡ b → Compared a b Equal
  more : b < a → Compared a b Greater

compared : (a b : ℕ) → Compared a b (compare_numbers a b)
unfolding compare_numbers
compared a b = go (ltb a b) (eqb a b) refl refl
  where
    go : (x y : Bool) → ltb a b ≡ x → eqb a b ≡ y → Compared a b (cond x Less (cond y Equal Greater))
    go true y e f = less (ltb-true a b e)
    go false true e f = equal (eqb-true a b f)
    go false false e f = let n : a ≡ b → ⊥ = eqb-false a b f in more (omega (arith, ltb-false a b e))

number-swap : (a b : ℕ) (v : Ordering) → Compared a b v → compare_numbers b a ≡ opposite v
number-swap a b Less (less h) = number-later b a h
number-swap a b Equal (equal e) = number_same b a (omega arith) (omega arith)
number-swap a b Greater (more h) = number-earlier b a h

number-less : (a b : ℕ) (v : Ordering) → Compared a b v → v ≡ Less → a < b
number-less a b Less (less h) e = h
number-less a b Equal (equal h) e = let z : ◌≡◌ {A = ℕ} 0 1 = cc in absurd (omega arith)
number-less a b Greater (more h) e = let z : ◌≡◌ {A = ℕ} 0 1 = cc in absurd (omega arith)

number-equal : (a b : ℕ) (v : Ordering) → Compared a b v → v ≡ Equal → a ≡ b
number-equal a b Less (less h) e = let z : ◌≡◌ {A = ℕ} 0 1 = cc in absurd (omega arith)
number-equal a b Equal (equal h) e = h
number-equal a b Greater (more h) e = let z : ◌≡◌ {A = ℕ} 0 1 = cc in absurd (omega arith)

pub numbers-order : Order compare_numbers
numbers-order = record {
  swap = λ a b. number-swap a b (compare_numbers a b) (compared a b);
  same = λ a. number_same a a (omega arith) (omega arith);
  equal = λ a b e. number-equal a b (compare_numbers a b) (compared a b) e;
  trans = λ a b c e f.
      let h = number-less a b (compare_numbers a b) (compared a b) e in
      let k = number-less b c (compare_numbers b c) (compared b c) f in
      number-earlier a c (omega arith);
}

-- the first verdict, and else the second
else_swap : (u v : Ordering) → unless_same (opposite u) (opposite v) ≡ opposite (unless_same u v)
else_swap Less v = refl
else_swap Equal v = refl
else_swap Greater v = refl

else_same : (u v : Ordering) → unless_same u v ≡ Equal → (u ≡ Equal) × (v ≡ Equal)
else_same Less v e = let z : ◌≡◌ {A = ℕ} 0 1 = cc in absurd (omega arith)
else_same Equal v e = (refl, e)
else_same Greater v e = let z : ◌≡◌ {A = ℕ} 0 1 = cc in absurd (omega arith)

module _ {A : Type 0} (by : A → A → Ordering) (o : Order by) where
  else_trans : (x y z : A) (u v w : Ordering) → (u ≡ Less → v ≡ Less → w ≡ Less) → unless_same (by x y) u ≡ Less → unless_same (by y z) v ≡ Less
      → unless_same (by x z) w ≡ Less
  else_trans x y z u v w on e f = go (by x y) (by y z) refl refl e f
    where
      go : (s t : Ordering) → by x y ≡ s → by y z ≡ t → unless_same s u ≡ Less → unless_same t v ≡ Less → unless_same (by x z) w ≡ Less
      go Less Less a b e f = rw (o.trans x y z a b)
      go Less Equal a b e f =
          let k : by x z ≡ Less = ap (by x) (sym (o.equal y z b)) ∙ a in
          rw k
      go Less Greater a b e f = let z : ◌≡◌ {A = ℕ} 0 1 = cc in absurd (omega arith)
      go Equal Less a b e f =
          let k : by x z ≡ Less = ap (λ (t : A). by t z) (o.equal x y a) ∙ b in
          rw k
      go Equal Equal a b e f =
          let k : by x z ≡ Equal = ap (λ (t : A). by t z) (o.equal x y a) ∙ b in
          rw k (on e f)
      go Equal Greater a b e f = let z : ◌≡◌ {A = ℕ} 0 1 = cc in absurd (omega arith)
      go Greater t a b e f = let z : ◌≡◌ {A = ℕ} 0 1 = cc in absurd (omega arith)

  -- lists in turn
  turn_swap : (xs ys : List A) → in_turn by ys xs ≡ opposite (in_turn by xs ys)
  unfolding in_turn
  turn_swap [] [] = refl
  turn_swap [] (y ∷ ys) = refl
  turn_swap (x ∷ xs) [] = refl
  turn_swap (x ∷ xs) (y ∷ ys) = rw (o.swap x y, turn_swap xs ys) (else_swap (by x y) (in_turn by xs ys))

  turn_same : (xs : List A) → in_turn by xs xs ≡ Equal
  unfolding in_turn
  turn_same [] = refl
  turn_same (x ∷ xs) = rw (o.same x) (turn_same xs)

  turn_equal : (xs ys : List A) → in_turn by xs ys ≡ Equal → xs ≡ ys
  unfolding in_turn
  turn_equal [] [] e = refl
  turn_equal [] (y ∷ ys) e = let z : ◌≡◌ {A = ℕ} 0 1 = cc in absurd (omega arith)
  turn_equal (x ∷ xs) [] e = let z : ◌≡◌ {A = ℕ} 0 1 = cc in absurd (omega arith)
  turn_equal (x ∷ xs) (y ∷ ys) e =
      let k = else_same (by x y) (in_turn by xs ys) e in
      ap₂ (λ (h : A) (t : List A). h ∷ t) (o.equal x y k.0) (turn_equal xs ys k.1)

  turn_trans : (xs ys zs : List A) → in_turn by xs ys ≡ Less → in_turn by ys zs ≡ Less → in_turn by xs zs ≡ Less
  unfolding in_turn
  turn_trans [] [] zs e f = let z : ◌≡◌ {A = ℕ} 0 1 = cc in absurd (omega arith)
  turn_trans [] (y ∷ ys) [] e f = let z : ◌≡◌ {A = ℕ} 0 1 = cc in absurd (omega arith)
  turn_trans [] (y ∷ ys) (z ∷ zs) e f = refl
  turn_trans (x ∷ xs) [] zs e f = let z : ◌≡◌ {A = ℕ} 0 1 = cc in absurd (omega arith)
  turn_trans (x ∷ xs) (y ∷ ys) [] e f = let z : ◌≡◌ {A = ℕ} 0 1 = cc in absurd (omega arith)
  turn_trans (x ∷ xs) (y ∷ ys) (z ∷ zs) e f = else_trans x y z _ _ _ (turn_trans xs ys zs) e f

  pub lists_order : Order (in_turn by)
  lists_order = record { swap = turn_swap; same = turn_same; equal = turn_equal; trans = turn_trans }

pub bytes_order : Order compare_bytes
bytes_order = lists_order compare_numbers numbers-order

-- the library's comparison of bytes is this one
pub bytes_in_turn : (xs ys : List ℕ) → slice_cmp nat_cmp xs ys ≡ compare_bytes xs ys
unfolding in_turn compare_numbers
bytes_in_turn [] [] = refl
bytes_in_turn [] (y ∷ ys) = refl
bytes_in_turn (x ∷ xs) [] = refl
bytes_in_turn (x ∷ xs) (y ∷ ys) = ap (unless_same (nat_cmp x y)) (bytes_in_turn xs ys)

-- of three comparisons in turn, two may be taken first
pub by_fields : (u v w : Ordering) → ordering_then (ordering_then u v) w ≡ ordering_then u (ordering_then v w)
by_fields Less v w = refl
by_fields Equal v w = refl
by_fields Greater v w = refl

-- records
pub records-order : Order compare_records
unfolding compare_records
records-order = record {
  swap = λ a b.
      rw (n.swap a.class b.class, n.swap a.rtype b.rtype, d.swap a.rdata b.rdata)
      (rw else_swap (else_swap (compare_numbers a.class b.class) (unless_same (compare_numbers a.rtype b.rtype) (compare_bytes a.rdata b.rdata))));
  same = λ a. rw (n.same a.class, n.same a.rtype) (d.same a.rdata);
  equal = λ a b e.
      let k = else_same (compare_numbers a.class b.class) (unless_same (compare_numbers a.rtype b.rtype) (compare_bytes a.rdata b.rdata)) e in
      let j = else_same (compare_numbers a.rtype b.rtype) (compare_bytes a.rdata b.rdata) k.1 in
      λ i. record {
        class =
            n.equal a.class b.class k.0 i;
        rtype = n.equal a.rtype b.rtype j.0 i;
        rdata = d.equal a.rdata b.rdata j.1 i;
      };
  trans = λ a b c e f.
      else_trans compare_numbers n a.class b.class c.class _ _ _
      (else_trans compare_numbers n a.rtype b.rtype c.rtype _ _ _ (d.trans a.rdata b.rdata c.rdata)) e f;
}
  where
    n : Order compare_numbers
    n = numbers-order

    d : Order compare_bytes
    d = bytes_order
