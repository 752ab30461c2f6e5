-- Held queries as a list, in order of arrival: there are at most four; one more goes to the end; one that is taken out leaves the others in their order; known
-- answers go to those of an address; and no two are of one address. Assumes nothing.
use Prim.Native.Nat.{ℕ, ◌≤◌}
use mathlib.Core.Path.{◌≡◌, refl, sym, ap, ◌∙◌}
use mathlib.Core.List.{List, [], ◌∷◌, ◌++◌, map}
use mathlib.Core.Bool.{Bool, true, false, cond, not, ◌&&◌, ◌||◌, or_assoc, or-false}
use native.Mathlib.Omega.{arith}
use lib.Dec.{eqb}
use lib.ListN.{length}
use borrow.Author.Tests.{eqb-true, eq-eqb}
use mathlib.Mathlib.Data.Bool.Basic.{or-eq-false-eq-eq-false-and-eq-false as neither, and-eq-true-eq-eq-true-and-eq-true as both}
use Rattle.claims.specs.records.Sets.{some_of, picked}
use Rattle.claims.specs.holds.Holds.{is_taken, no_hold, no_holds, hold_at, with_hold, slots, held_of, same_address, is_from, some_from, some_free, union, knowing, knowing_all, queued, once_per_address}
use Rattle.claims.specs.declared.records.Set.{Set}
use Rattle.claims.specs.declared.holds.Address.{Address}
use Rattle.claims.specs.declared.holds.Hold.{Hold}
use Rattle.claims.specs.declared.holds.Holds.{Holds}
use Rattle.claims.specs.declared.holds.Place.{Place}
use Rattle.claims.specs.declared.holds.Place.TheVariants.{First, Second, Third, Fourth}

clash : {A : Type 0} → ◌≡◌ {A = Bool} false true → A
clash h = let z : ◌≡◌ {A = ℕ} 0 1 = cc in absurd (omega arith)

-- ---- lists

picked-append : {A : Type 0} (test : A → Bool) (xs ys : List A) → picked test (xs ++ ys) ≡ picked test xs ++ picked test ys
unfolding picked
picked-append test [] ys = refl
picked-append test (x ∷ xs) ys = go (test x) (picked-append test xs ys)
  where
    go : (b : Bool) → picked test (xs ++ ys) ≡ picked test xs ++ picked test ys
        → cond b (x ∷ picked test (xs ++ ys)) (picked test (xs ++ ys)) ≡ cond b (x ∷ picked test xs) (picked test xs) ++ picked test ys
    go true e = ap (λ (l : List _). x ∷ l) e
    go false e = e

picked-length : {A : Type 0} (test : A → Bool) (xs : List A) → length (picked test xs) ≤ length xs
unfolding picked
picked-length test [] = omega arith
picked-length test (x ∷ xs) = go (test x) (picked-length test xs)
  where
    go : (b : Bool) → length (picked test xs) ≤ length xs → length (cond b (x ∷ picked test xs) (picked test xs)) ≤ length (x ∷ xs)
    go true l = omega arith
    go false l = omega arith

some-append : {A : Type 0} (test : A → Bool) (xs ys : List A) → some_of test (xs ++ ys) ≡ (some_of test xs || some_of test ys)
unfolding some_of
some-append test [] ys = refl
some-append test (x ∷ xs) ys =
    ap (λ (b : Bool). test x || b) (some-append test xs ys) ∙ sym (or_assoc (test x) (some_of test xs) (some_of test ys))

-- ---- at most four

pub at_most-four : (holds : Holds) → length (held_of holds) ≤ 4
unfolding held_of
at_most-four holds = picked-length is_taken (slots holds)

-- ---- one more

pushed : Hold → List Hold → List Hold
pushed new [] = []
pushed new (h ∷ hs) = cond (is_taken h) (h ∷ pushed new hs) (hs ++ (new ∷ []))

slots-queued : (new : Hold) (holds : Holds) → slots (queued new holds) ≡ pushed new (slots holds)
unfolding queued pushed
slots-queued new holds = go (is_taken holds.first) (is_taken holds.second) (is_taken holds.third) (is_taken holds.fourth)
  where
    go : (a b c d : Bool)
        → slots
        (cond a
        (cond b
        (cond c
        (cond d holds (record { first = holds.first; second = holds.second; third = holds.third; fourth = new }))
        (record { first = holds.first; second = holds.second; third = holds.fourth; fourth = new }))
        (record { first = holds.first; second = holds.third; third = holds.fourth; fourth = new }))
        (record { first = holds.second; second = holds.third; third = holds.fourth; fourth = new }))
        ≡ cond a
        (holds.first ∷ cond b
        (holds.second ∷ cond c
        (holds.third ∷ cond d (holds.fourth ∷ []) (new ∷ []))
        (holds.fourth ∷ new ∷ []))
        (holds.third ∷ holds.fourth ∷ new ∷ []))
        (holds.second ∷ holds.third ∷ holds.fourth ∷ new ∷ [])
    go true true true true = refl
    go true true true false = refl
    go true true false d = refl
    go true false c d = refl
    go false b c d = refl

pushed_picked : (new : Hold) → is_taken new ≡ true → (hs : List Hold) → some_of (λ h. not (is_taken h)) hs ≡ true
    → picked is_taken (pushed new hs) ≡ picked is_taken hs ++ (new ∷ [])
unfolding picked pushed some_of
pushed_picked new t [] f = clash f
pushed_picked new t (h ∷ hs) f = go (is_taken h) refl f (pushed_picked new t hs)
  where
    go : (b : Bool) → is_taken h ≡ b → (not b || some_of (λ g. not (is_taken g)) hs) ≡ true
        → (some_of (λ g. not (is_taken g)) hs ≡ true → picked is_taken (pushed new hs) ≡ picked is_taken hs ++ (new ∷ []))
        → picked is_taken (cond b (h ∷ pushed new hs) (hs ++ (new ∷ []))) ≡ cond b (h ∷ picked is_taken hs) (picked is_taken hs) ++ (new ∷ [])
    go true e g more = rw e (ap (λ (l : List Hold). h ∷ l) (more g))
    go false e g more = picked-append is_taken hs (new ∷ []) ∙ rw t

-- a query more, where there is room, comes last
pub queued-last : (new : Hold) (holds : Holds) → is_taken new ≡ true → some_free holds ≡ true → held_of (queued new holds) ≡ held_of holds ++ (new ∷ [])
unfolding held_of some_free
queued-last new holds t f = ap (picked is_taken) (slots-queued new holds) ∙ pushed_picked new t (slots holds) f

-- ---- one less

-- those before a place and behind it
abbrev pub before : Place → Holds → List Hold
before First holds = []
before Second holds = holds.first ∷ []
before Third holds = holds.first ∷ holds.second ∷ []
before Fourth holds = holds.first ∷ holds.second ∷ holds.third ∷ []

abbrev pub behind : Place → Holds → List Hold
behind First holds = holds.second ∷ holds.third ∷ holds.fourth ∷ []
behind Second holds = holds.third ∷ holds.fourth ∷ []
behind Third holds = holds.fourth ∷ []
behind Fourth holds = []

split : (place : Place) (holds : Holds) → slots holds ≡ before place holds ++ (hold_at place holds ∷ behind place holds)
split First holds = refl
split Second holds = refl
split Third holds = refl
split Fourth holds = refl

split-without : (place : Place) (holds : Holds) → slots (with_hold place no_hold holds) ≡ before place holds ++ (no_hold ∷ behind place holds)
split-without First holds = refl
split-without Second holds = refl
split-without Third holds = refl
split-without Fourth holds = refl

module _ (place : Place) (holds : Holds) where
  -- the held queries that came before one, and those that came later
  abbrev pub earlier : List Hold
  earlier = picked is_taken (before place holds)

  abbrev pub later : List Hold
  later = picked is_taken (behind place holds)

  pub held-split : is_taken (hold_at place holds) ≡ true → held_of holds ≡ earlier ++ (hold_at place holds ∷ later)
  unfolding held_of picked
  held-split t =
      ap (picked is_taken) (split place holds) ∙ picked-append is_taken (before place holds) (hold_at place holds ∷ behind place holds)
      ∙ ap (λ (b : Bool). earlier ++ cond b (hold_at place holds ∷ later) later) t

  -- what is taken out leaves the others in their order
  pub taken_out : held_of (with_hold place no_hold holds) ≡ earlier ++ later
  unfolding held_of picked
  taken_out = ap (picked is_taken) (split-without place holds) ∙ picked-append is_taken (before place holds) (no_hold ∷ behind place holds)

-- ---- known answers

module _ (from : Address) (known : Set) where
  knowing-by : (P : Hold → Type 0) (h : Hold) → P h → P (record { from = h.from; due = h.due; asked = h.asked; known = union h.known known })
      → P (knowing from known h)
  unfolding knowing
  knowing-by P h p q = go (is_from from h)
    where
      go : (b : Bool) → P (cond b (record { from = h.from; due = h.due; asked = h.asked; known = union h.known known }) h)
      go true = q
      go false = p

  knowing-taken : (h : Hold) → is_taken (knowing from known h) ≡ is_taken h
  knowing-taken h = knowing-by (λ g. is_taken g ≡ is_taken h) h refl refl

  knowing-picked : (hs : List Hold) → picked is_taken (map (knowing from known) hs) ≡ map (knowing from known) (picked is_taken hs)
  unfolding picked
  knowing-picked [] = refl
  knowing-picked (h ∷ hs) = rw (knowing-taken h) (go (is_taken h) (knowing-picked hs))
    where
      go : (b : Bool) → picked is_taken (map (knowing from known) hs) ≡ map (knowing from known) (picked is_taken hs)
          → cond b (knowing from known h ∷ picked is_taken (map (knowing from known) hs)) (picked is_taken (map (knowing from known) hs))
          ≡ map (knowing from known) (cond b (h ∷ picked is_taken hs) (picked is_taken hs))
      go true e = ap (λ (l : List Hold). knowing from known h ∷ l) e
      go false e = e

  pub knowing-held : (holds : Holds) → held_of (knowing_all from known holds) ≡ map (knowing from known) (held_of holds)
  unfolding held_of knowing_all
  knowing-held holds = knowing-picked (slots holds)

-- ---- no two of one address

eqb-sym : (m n : ℕ) → eqb m n ≡ eqb n m
eqb-sym m n = go (eqb m n) refl (eqb n m) refl
  where
    go : (a : Bool) → eqb m n ≡ a → (b : Bool) → eqb n m ≡ b → a ≡ b
    go true e true f = refl
    go false e false f = refl
    go true e false f = let z : m ≡ n = eqb-true m n e in let w : n ≡ m = sym z in clash (sym f ∙ eq-eqb n m w)
    go false e true f = let z : n ≡ m = eqb-true n m f in let w : m ≡ n = sym z in clash (sym e ∙ eq-eqb m n w)

same_sym : (a b : Address) → same_address a b ≡ same_address b a
same_sym a b = rw (eqb-sym a.high b.high, eqb-sym a.low b.low) refl

-- a query of the address is among some
abbrev pub of_address : Address → List Hold → Bool
of_address from hs = some_of (λ h. same_address h.from from) hs

from-picked : (from : Address) (hs : List Hold) → some_of (is_from from) hs ≡ of_address from (picked is_taken hs)
unfolding some_of picked
from-picked from [] = refl
from-picked from (h ∷ hs) = go (is_taken h) (from-picked from hs)
  where
    go : (b : Bool) → some_of (is_from from) hs ≡ of_address from (picked is_taken hs)
        → ((b && same_address h.from from) || some_of (is_from from) hs) ≡ of_address from (cond b (h ∷ picked is_taken hs) (picked is_taken hs))
    go true e = ap (λ (v : Bool). same_address h.from from || v) e
    go false e = e

pub some-from_held : (from : Address) (holds : Holds) → some_from from holds ≡ of_address from (held_of holds)
unfolding some_from held_of
some-from_held from holds = from-picked from (slots holds)

once_last : (new : Hold) (hs : List Hold) → of_address new.from hs ≡ false → once_per_address hs ≡ true → once_per_address (hs ++ (new ∷ [])) ≡ true
unfolding once_per_address some_of
once_last new [] n o = refl
once_last new (h ∷ hs) n o =
    let a = (neither (same_address h.from new.from) (of_address new.from hs)).0 n in
    let b = (both (not (of_address h.from hs)) (once_per_address hs)).0 o in
    let s : same_address new.from h.from ≡ false = same_sym new.from h.from ∙ a.0 in
    rw (some-append (λ g. same_address g.from h.from) hs (new ∷ []), s, or-false (of_address h.from hs), b.0)
    (once_last new hs a.1 b.1)

once_without : (h : Hold) (xs ys : List Hold) → once_per_address (xs ++ (h ∷ ys)) ≡ true → once_per_address (xs ++ ys) ≡ true
unfolding once_per_address some_of
once_without h [] ys o = ((both (not (of_address h.from ys)) (once_per_address ys)).0 o).1
once_without h (x ∷ xs) ys o =
    let b = (both (not (of_address x.from (xs ++ (h ∷ ys)))) (once_per_address (xs ++ (h ∷ ys)))).0 o in
    let n : not (of_address x.from (xs ++ ys)) ≡ true =
    rw (some-append (λ g. same_address g.from x.from) xs ys)
    (less (of_address x.from xs) (same_address h.from x.from) (of_address x.from ys)
    (rw (some-append (λ g. same_address g.from x.from) xs (h ∷ ys)) at b.0)) in
    rw n (once_without h xs ys b.1)
  where
    less : (p q r : Bool) → not (p || (q || r)) ≡ true → not (p || r) ≡ true
    less true q r e = e
    less false true r e = clash e
    less false false r e = e

once_knowing : (from : Address) (known : Set) (hs : List Hold) → once_per_address (map (knowing from known) hs) ≡ once_per_address hs
unfolding once_per_address some_of
once_knowing from known [] = refl
once_knowing from known (h ∷ hs) =
    rw (from_is h, same_addresses h.from hs, once_knowing from known hs) refl
  where
    from_is : (g : Hold) → (knowing from known g).from ≡ g.from
    from_is g = knowing-by from known (λ x. x.from ≡ g.from) g refl refl

    same_addresses : (a : Address) (gs : List Hold) → of_address a (map (knowing from known) gs) ≡ of_address a gs
    same_addresses a [] = refl
    same_addresses a (g ∷ gs) = rw (from_is g, same_addresses a gs) refl

-- Each change leaves no two of one address.
pub once_none : once_per_address (held_of no_holds) ≡ true
unfolding held_of picked once_per_address
once_none = refl

pub once_queued : (new : Hold) (holds : Holds) → is_taken new ≡ true → some_free holds ≡ true → some_from new.from holds ≡ false
    → once_per_address (held_of holds) ≡ true → once_per_address (held_of (queued new holds)) ≡ true
once_queued new holds t f n o =
    rw (queued-last new holds t f) (once_last new (held_of holds) (sym (some-from_held new.from holds) ∙ n) o)

pub once_taken : (place : Place) (holds : Holds) → is_taken (hold_at place holds) ≡ true → once_per_address (held_of holds) ≡ true
    → once_per_address (held_of (with_hold place no_hold holds)) ≡ true
once_taken place holds t o =
    rw (taken_out place holds) (once_without (hold_at place holds) (earlier place holds) (later place holds) (rw (held-split place holds t) at o))

pub once_known : (from : Address) (known : Set) (holds : Holds) → once_per_address (held_of holds) ≡ true → once_per_address (held_of (knowing_all from known holds)) ≡ true
once_known from known holds o = rw (knowing-held from known holds) (once_knowing from known (held_of holds) ∙ o)
