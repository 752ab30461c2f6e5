-- The rdata of each type, and a part of a packet. Assumes nothing.
use mathlib.Core.Path.{◌≡◌, refl, sym, ap, ◌∙◌}
use mathlib.Core.List.{List}
use mathlib.Core.Bool.{Bool, true, false, cond, ◌||◌}
use Prim.Native.Nat.{ℕ, ◌+◌, ◌-◌, ◌<◌, ◌≤◌}
use native.Mathlib.Nat.{add-sub_cancel_left, le_of_lt}
use native.Mathlib.Omega.{arith}
use borrow.Author.Tests.{le-leb, lt-leb, ne_eqb, eqb-true}
use lib.ListN.{length, take, drop, length-drop, drop_of_length-le}
use lib.Seq.{take-nil, take_all}
use lib.Dec.{eqb}
use Rattle.wire.specs.names.Names.{name_at}
use Rattle.wire.specs.rdata.Rdata.{rdata, unfit, strings_fill, form_of, next_form, form_in, with_name, rdata_in, rdata_at}
use Rattle.wire.specs.rdata.Answers.{fits, start_in}
use Rattle.wire.specs.declared.rdata.Form.{Form}
use Rattle.wire.specs.declared.message.RecordAt.{RecordAt}

-- a test of fitness
fits-cond : (b : Bool) (d : List ℕ) → fits (cond b (rdata d) unfit) ≡ b
fits-cond true d = refl
fits-cond false d = refl

-- the rdata of each type, in a part of the packet
module _ (p d : List ℕ) (f : RecordAt) where
  pub in_a : f.rtype ≡ 1 → eqb (length d) 4 ≡ fits (rdata_in p f d)
  unfolding rdata_in
  in_a e = rw e (sym (fits-cond (eqb (length d) 4) d))

  pub in_txt_lem : f.rtype ≡ 16 → (v : Bool) → v ≡ strings_fill 0 d → v ≡ fits (rdata_in p f d)
  unfolding rdata_in
  in_txt_lem e v h = rw e (h ∙ sym (fits-cond (strings_fill 0 d) d))

  pub in_aaaa : f.rtype ≡ 28 → eqb (length d) 16 ≡ fits (rdata_in p f d)
  unfolding rdata_in
  in_aaaa e = rw e (sym (fits-cond (eqb (length d) 16) d))

  pub in_srv : f.rtype ≡ 33 → (v : Bool) → v ≡ fits (with_name p f.rdata d 6 0) → v ≡ fits (rdata_in p f d)
  unfolding rdata_in form_in
  in_srv e v h = rw e h

  -- rdata that holds a name is of none of the types that are read as they lie
  types : (form_in p f d).named ≡ true → (eqb f.rtype 1 ≡ false) × (eqb f.rtype 16 ≡ false) × (eqb f.rtype 28 ≡ false)
  unfolding form_in
  types h = go (eqb f.rtype 47) (eqb f.rtype 12) (eqb f.rtype 33) refl refl refl h
    where
      go : (n a b : Bool) → eqb f.rtype 47 ≡ n → eqb f.rtype 12 ≡ a → eqb f.rtype 33 ≡ b
          → (cond n (next_form p f.owner f.rdata d (name_at p f.rdata)) (record { named = a || b; before = cond b 6 0; behind = 0 })).named ≡ true
          → (eqb f.rtype 1 ≡ false) × (eqb f.rtype 16 ≡ false) × (eqb f.rtype 28 ≡ false)
      go true a b k e g t = rw (eqb-true f.rtype 47 k) (refl, refl, refl)
      go false true b k e g t = rw (eqb-true f.rtype 12 e) (refl, refl, refl)
      go false false true k e g t = rw (eqb-true f.rtype 33 g) (refl, refl, refl)
      go false false false k e g t = let z : ◌≡◌ {A = ℕ} 0 1 = cc in absurd (omega arith)

  -- rdata that holds a name
  pub in_named : (form_in p f d).named ≡ true → rdata_in p f d ≡ with_name p f.rdata d (form_in p f d).before (form_in p f d).behind
  unfolding rdata_in
  in_named h = let t = types h in simp (t.0, t.1, t.2, h)

  -- from the form that the code has found
  module _ (g : Form) (is : g ≡ form_in p f d) where
    pub in_other : (f.rtype ≡ 1 → ⊥) → (f.rtype ≡ 16 → ⊥) → (f.rtype ≡ 28 → ⊥) → g.named ≡ false → true ≡ fits (rdata_in p f d)
    unfolding rdata_in
    in_other a b c e =
        let none : (form_in p f d).named ≡ false = sym (ap (λ (y : Form). y.named) is) ∙ e in
        simp (ne_eqb _ _ a, ne_eqb _ _ b, ne_eqb _ _ c, none)

    pub in_form : g.named ≡ true → (v : Bool) → v ≡ fits (with_name p f.rdata d g.before g.behind) → v ≡ fits (rdata_in p f d)
    in_form e v k =
        k ∙ ap (λ (y : Form). fits (with_name p f.rdata d y.before y.behind)) is ∙ sym (ap fits (in_named (sym (ap (λ (y : Form). y.named) is) ∙ e)))

-- the rdata of a record as it lies
module _ (p : List ℕ) (f : RecordAt) where
  pub at-past : length p < f.rdata + f.rdlength → rdata_at p f ≡ unfit
  unfolding rdata_at
  at-past h = simp (lt-leb _ _ h)

  pub at-within : f.rdata + f.rdlength ≤ length p → rdata_at p f ≡ rdata_in p f (take f.rdlength (drop f.rdata p))
  unfolding rdata_at
  at-within h = simp (le-leb _ _ h)

  pub fits-past : length p < f.rdata + f.rdlength → false ≡ fits (rdata_at p f)
  fits-past h = sym (ap fits (at-past h))

  pub fits-within : f.rdata + f.rdlength ≤ length p → (v : Bool) → v ≡ fits (rdata_in p f (take (f.rdata + f.rdlength - f.rdata) (drop f.rdata p))) → v ≡ fits (rdata_at p f)
  fits-within h v e =
      e ∙ ap (λ (n : ℕ). fits (rdata_in p f (take n (drop f.rdata p)))) (add-sub_cancel_left f.rdata f.rdlength) ∙ sym (ap fits (at-within h))

-- the three forms
pub form_ptr : (rtype : ℕ) → rtype ≡ 12 → ◌≡◌ {A = Form} (record { named = true; before = 0; behind = 0 }) (form_of rtype)
form_ptr rtype e = rw e

pub form_srv : (rtype : ℕ) → rtype ≡ 33 → ◌≡◌ {A = Form} (record { named = true; before = 6; behind = 0 }) (form_of rtype)
form_srv rtype e = rw e

pub form_plain : (rtype : ℕ) → (rtype ≡ 12 → ⊥) → (rtype ≡ 33 → ⊥) → ◌≡◌ {A = Form} (record { named = false; before = 0; behind = 0 }) (form_of rtype)
form_plain rtype a b = simp (ne_eqb _ _ a, ne_eqb _ _ b)

-- a part of a packet, as far as the packet goes
module _ (p : List ℕ) (at len : ℕ) where
  pub part_none : length p < at → take (length p - length p) (drop (length p) p) ≡ take len (drop at p)
  part_none h =
      let z : length p - length p ≡ 0 = omega arith in
      ap (λ (k : ℕ). take k (drop (length p) p)) z ∙ sym (take-nil len) ∙ sym (ap (take len) (drop_of_length-le p (le_of_lt h)))

  pub part_rest : at ≤ length p → length p < at + len → take (length p - at) (drop at p) ≡ take len (drop at p)
  part_rest h g =
      take_all (length p - at) (drop at p) (omega (arith, length-drop at p)) ∙ sym (take_all len (drop at p) (omega (arith, length-drop at p)))

  pub part_whole : take (at + len - at) (drop at p) ≡ take len (drop at p)
  part_whole = ap (λ (k : ℕ). take k (drop at p)) (add-sub_cancel_left at len)

-- where it starts
module _ (p : List ℕ) (at : ℕ) (place : ℕ × ℕ) where
  pub start-past : length p < at → (place.0, length p + place.1) ≡ start_in p at place
  start-past h = rw (lt-leb at (length p) h) refl

  pub start-inside : at ≤ length p → (place.0, at + place.1) ≡ start_in p at place
  start-inside h = rw (le-leb at (length p) h) refl
