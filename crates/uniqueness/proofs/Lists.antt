-- Lists of own records and tests on them. Assumes nothing.
use mathlib.Core.Path.{◌≡◌, refl, sym, ap, subst, ◌∙◌}
use mathlib.Core.Logic.{◌⊎◌, inl, inr}
use mathlib.Core.Bool.{Bool, true, false, cond, not, ◌&&◌, ◌||◌}
use mathlib.Core.List.{List, [], ◌∷◌, ◌++◌, map}
use Prim.Native.Nat.{ℕ}
use native.Mathlib.Omega.{arith}
use Rattle.wire.specs.Lists.{some}
use Rattle.claims.specs.records.Sets.{picked}
use Rattle.link.specs.Premises.{Among}

pub clash : {A : Type 0} → ◌≡◌ {A = ℕ} 0 1 → A
clash z = absurd (omega arith)

pub never : {A : Type 0} → ◌≡◌ {A = Bool} false true → A
never h = clash (cc)

pub and_left : (a b : Bool) → (a && b) ≡ true → a ≡ true
and_left true b h = refl
and_left false b h = h

pub and_right : (a b : Bool) → (a && b) ≡ true → b ≡ true
and_right true b h = h
and_right false b h = never h

pub and_both : (a b : Bool) → a ≡ true → b ≡ true → (a && b) ≡ true
and_both true b e f = f
and_both false b e f = e

pub or_left : (a b : Bool) → a ≡ true → (a || b) ≡ true
or_left true b e = refl
or_left false b e = never e

pub or_right : (a b : Bool) → b ≡ true → (a || b) ≡ true
or_right true b e = refl
or_right false b e = e

pub not-true : (b : Bool) → not b ≡ true → b ≡ false
not-true true e = never e
not-true false e = refl

module _ {A : Type 0} (test : A → Bool) where
  -- one that passes the test
  pub some_in : (x : A) (xs : List A) → Among x xs → test x ≡ true → some test xs ≡ true
  unfolding some
  some_in x [] h t = absurd h
  some_in x (y ∷ ys) (inl e) t = or_left (test y) (some test ys) (ap test (sym e) ∙ t)
  some_in x (y ∷ ys) (inr h) t = or_right (test y) (some test ys) (some_in x ys h t)

  pub some_out : (xs : List A) → some test xs ≡ true → (x : A) × Among x xs × (test x ≡ true)
  unfolding some
  some_out [] h = never h
  some_out (y ∷ ys) h = go (some_out ys) (test y) refl h
    where
      go : (some test ys ≡ true → (x : A) × Among x ys × (test x ≡ true)) → (b : Bool) → test y ≡ b → (b || some test ys) ≡ true
          → (x : A) × Among x (y ∷ ys) × (test x ≡ true)
      go more true e k = (y, inl refl, e)
      go more false e k = let r = more k in (r.0, inr r.1, r.2)

pub in_append : {A : Type 0} (x : A) (xs ys : List A) → Among x xs → Among x (xs ++ ys)
in_append x [] ys h = absurd h
in_append x (y ∷ rest) ys (inl e) = inl e
in_append x (y ∷ rest) ys (inr h) = inr (in_append x rest ys h)

pub in_tail : {A : Type 0} (x : A) (xs ys : List A) → Among x ys → Among x (xs ++ ys)
in_tail x [] ys h = h
in_tail x (y ∷ rest) ys h = inr (in_tail x rest ys h)

pub out_append : {A : Type 0} (x : A) (xs ys : List A) → Among x (xs ++ ys) → Among x xs ⊎ Among x ys
out_append x [] ys h = inr h
out_append x (y ∷ rest) ys (inl e) = inl (inl e)
out_append x (y ∷ rest) ys (inr h) = go (out_append x rest ys h)
  where
    go : Among x rest ⊎ Among x ys → Among x (y ∷ rest) ⊎ Among x ys
    go (inl k) = inl (inr k)
    go (inr k) = inr k

module _ {A B : Type 0} (f : A → B) where
  pub in_map : (x : A) (xs : List A) → Among x xs → Among (f x) (map f xs)
  in_map x [] h = absurd h
  in_map x (y ∷ ys) (inl e) = inl (ap f e)
  in_map x (y ∷ ys) (inr h) = inr (in_map x ys h)

  pub out_map : (y : B) (xs : List A) → Among y (map f xs) → (x : A) × Among x xs × (y ≡ f x)
  out_map y [] h = absurd h
  out_map y (x ∷ xs) (inl e) = (x, inl refl, e)
  out_map y (x ∷ xs) (inr h) = let r = out_map y xs h in (r.0, inr r.1, r.2)

module _ {A : Type 0} (test : A → Bool) where
  pub in_picked : (i : A) (is : List A) → Among i is → test i ≡ true → Among i (picked test is)
  unfolding picked
  in_picked i [] h t = absurd h
  in_picked i (j ∷ js) (inl e) t = subst (λ (b : Bool). Among i (cond b (j ∷ picked test js) (picked test js))) (sym (ap test (sym e) ∙ t)) (inl e)
  in_picked i (j ∷ js) (inr h) t = go (in_picked i js h t) (test j)
    where
      go : Among i (picked test js) → (b : Bool) → Among i (cond b (j ∷ picked test js) (picked test js))
      go k true = inr k
      go k false = k

  pub out_picked : (i : A) (is : List A) → Among i (picked test is) → Among i is × (test i ≡ true)
  unfolding picked
  out_picked i [] h = absurd h
  out_picked i (j ∷ js) h = go (out_picked i js) (test j) refl h
    where
      go : (Among i (picked test js) → Among i js × (test i ≡ true)) → (b : Bool) → test j ≡ b → Among i (cond b (j ∷ picked test js) (picked test js))
          → Among i (j ∷ js) × (test i ≡ true)
      go more true e (inl k) = (inl k, ap test k ∙ e)
      go more true e (inr k) = let r = more k in (inr r.0, r.1)
      go more false e k = let r = more k in (inr r.0, r.1)
