-- The form of a record's rdata: how many bytes stand around a name, and the NSEC of the restricted kind. Assumes nothing.
use Rattle.std.specs.Prelude.{None, Some}
use mathlib.Core.Path.{◌≡◌, refl, sym, ap, ap₂, ◌∙◌}
use mathlib.Core.List.{List, [], ◌∷◌}
use mathlib.Core.Bool.{Bool, true, false, cond, ◌&&◌}
use Prim.Native.Nat.{ℕ, zero, suc, ◌+◌, ◌-◌, ◌<◌, ◌≤◌}
use native.Mathlib.Nat.{sub-zero, suc-sub-suc, zero-sub}
use native.Mathlib.Omega.{arith}
use borrow.Author.Tests.{eq-eqb, ne_eqb}
use mathlib.Mathlib.Data.Bool.Basic.{and-eq-true-eq-eq-true-and-eq-true as both}
use lib.ListN.{length, take, drop, length-drop, length-take, drop_of_length-le}
use lib.Seq.{take_all, take-nil}
use lib.Dec.{eqb}
use Rattle.wire.specs.names.Names.{Reading, name, malformed, name_at}
use Rattle.wire.specs.names.Answers.{expanded, name_is}
use Rattle.wire.specs.nsec.Nsec.{is_block}
use Rattle.wire.specs.declared.names.Span.{Span}
use Rattle.wire.specs.declared.names.Expanded.{Expanded}
use Rattle.wire.specs.declared.rdata.Form.{Form}
use Rattle.wire.specs.declared.message.RecordAt.{RecordAt}
use Rattle.wire.specs.rdata.Rdata.{plain_form, form_of, block_form, next_form, form_in}
use Rattle.wire.proofs.names.Use.{as_expanded, as_unexpanded}
use Rattle.wire.proofs.names.InPlace.{ends_behind}
use Rattle.wire.proofs.nsec.Blocks.{block-long}

-- the form of an NSEC by its type alone
plain-is : form_of 47 ≡ plain_form
plain-is = refl

-- a part of a part
pub drop-take : (n m : ℕ) (l : List ℕ) → drop n (take m l) ≡ take (m - n) (drop n l)
drop-take zero m l = ap (λ (k : ℕ). take k l) (sym (sub-zero m))
drop-take (suc n) zero l = sym (ap (λ (k : ℕ). take k (drop (suc n) l)) (zero-sub (suc n)))
drop-take (suc n) (suc m) [] = sym (take-nil (suc m - suc n))
drop-take (suc n) (suc m) (x ∷ l) = drop-take n m l ∙ ap (λ (k : ℕ). take k (drop n l)) (sym (suc-sub-suc m n))

-- at most 34 bytes stand around a name
pub around_small : (p : List ℕ) (f : RecordAt) (d : List ℕ) → (form_in p f d).before + (form_in p f d).behind ≤ 34
unfolding form_in
around_small p f d = go (eqb f.rtype 47) (name_at p f.rdata)
  where
    block : (b : List ℕ) (t : Bool) → (t ≡ true → length b ≤ 34)
        → (cond t (record { named = true; before = 0; behind = length b }) plain_form).before + (cond t (record { named = true; before = 0; behind = length b }) plain_form).behind ≤ 34
    block b true h = omega (arith, h refl)
    block b false h = omega arith

    srv : (t : Bool) → cond t 6 0 + 0 ≤ 34
    srv true = omega arith
    srv false = omega arith

    go : (t : Bool) (x : Reading) → (cond t (next_form p f.owner f.rdata d x) (form_of f.rtype)).before + (cond t (next_form p f.owner f.rdata d x) (form_of f.rtype)).behind ≤ 34
    go true (name bs e) =
        let b : List ℕ = drop (e - f.rdata) d in
        block b (name_is p f.owner bs && is_block b) (λ t. let k = block-long b ((both (name_is p f.owner bs) (is_block b)).0 t).1 in omega (arith, k.1))
    go true malformed = omega arith
    go false x = srv (eqb f.rtype 33)

-- the form of an NSEC, from the next name that the code has expanded
module _ (p : List ℕ) (owner at : ℕ) (d : List ℕ) (e : Expanded) (h : e ≡ expanded (name_at p at)) where
  pub next_bad : e.name ≡ None → (g : Form) → g ≡ form_of 47 → g ≡ next_form p owner at d (name_at p at)
  next_bad k g is = is ∙ sym (ap (next_form p owner at d) (as_unexpanded (name_at p at) e e.name h refl k))

  module _ (s : Span) (k : e.name ≡ Some s) where
    found : (bs : List ℕ) × (name_at p at ≡ name bs s.end) × (length bs ≡ s.len) × (take s.len e.bytes ≡ bs)
    found = as_expanded (name_at p at) e e.name s h refl k

    pub next_long : s.len ≡ length (take s.len e.bytes)
    next_long = sym (ap length found.3 ∙ found.2)

    pub next_fits : s.len ≤ length e.bytes
    next_fits = omega (arith, length-take s.len e.bytes, next_long)

    pub next_ends : at ≤ s.end
    next_ends = omega (arith, ends_behind p at found.0 s.end found.1)

    module _ (v : Bool) (is : v ≡ name_is p owner (take s.len e.bytes)) where
      read : next_form p owner at d (name_at p at) ≡ block_form v (drop (s.end - at) d)
      read =
          ap (next_form p owner at d) found.1
          ∙ ap (λ (b : Bool). block_form b (drop (s.end - at) d)) (ap (name_is p owner) (sym found.3) ∙ sym is)

      pub next_other : v ≡ false → (g : Form) → g ≡ form_of 47 → g ≡ next_form p owner at d (name_at p at)
      next_other e g same = same ∙ sym (read ∙ ap (λ (b : Bool). block_form b (drop (s.end - at) d)) e)

      blocked : (b : Bool) → is_block (drop (s.end - at) d) ≡ b → v ≡ true
          → next_form p owner at d (name_at p at) ≡ cond b (record { named = true; before = 0; behind = length (drop (s.end - at) d) }) plain_form
      blocked b t y = read ∙ ap₂ (λ (x y : Bool). cond (x && y) (record { named = true; before = 0; behind = length (drop (s.end - at) d) }) plain_form) y t

      pub next_cut : v ≡ true → length d < s.end - at → (g : Form) → g ≡ form_of 47 → g ≡ next_form p owner at d (name_at p at)
      unfolding is_block
      next_cut y l g same =
          same ∙ sym (blocked false (ap is_block (drop_of_length-le d {i = s.end - at} (omega arith))) y)

      module _ (w : Bool) (isw : w ≡ is_block (take (length d - (s.end - at)) (drop (s.end - at) d))) where
        whole : is_block (drop (s.end - at) d) ≡ w
        whole = sym (isw ∙ ap is_block (take_all (length d - (s.end - at)) (drop (s.end - at) d) (omega (arith, length-drop (s.end - at) d))))

        pub next_none : v ≡ true → w ≡ false → (g : Form) → g ≡ form_of 47 → g ≡ next_form p owner at d (name_at p at)
        next_none y n g same = same ∙ sym (blocked false (whole ∙ n) y)

        pub next_there : v ≡ true → w ≡ true
            → ◌≡◌ {A = Form} (record { named = true; before = 0; behind = length d - (s.end - at) }) (next_form p owner at d (name_at p at))
        next_there y t =
            ap (λ (n : ℕ). record { named = true; before = 0; behind = n }) (sym (length-drop (s.end - at) d)) ∙ sym (blocked true (whole ∙ t) y)

-- by the type
module _ (p d : List ℕ) (f : RecordAt) where
  pub in_nsec : f.rtype ≡ 47 → (g : Form) → g ≡ next_form p f.owner f.rdata d (name_at p f.rdata) → g ≡ form_in p f d
  unfolding form_in
  in_nsec e g is = is ∙ sym (ap (λ (b : Bool). cond b (next_form p f.owner f.rdata d (name_at p f.rdata)) (form_of f.rtype)) (eq-eqb _ _ e))

  pub in_typed : (f.rtype ≡ 47 → ⊥) → (g : Form) → g ≡ form_of f.rtype → g ≡ form_in p f d
  unfolding form_in
  in_typed e g is = is ∙ sym (ap (λ (b : Bool). cond b (next_form p f.owner f.rdata d (name_at p f.rdata)) (form_of f.rtype)) (ne_eqb _ _ e))
