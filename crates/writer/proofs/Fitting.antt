-- Whether a record is fit, and whether there is room for a name or a record, test by test. Assumes nothing.
use mathlib.Core.Path.{◌≡◌, refl, sym, ap, ◌∙◌}
use mathlib.Core.List.{List, ◌++◌}
use mathlib.Core.Bool.{Bool, true, false, cond, ◌&&◌}
use Prim.Native.Nat.{ℕ, ◌+◌, ◌-◌, ◌<◌, ◌≤◌}
use native.Mathlib.Omega.{arith}
use borrow.Author.Tests.{le-leb, leb-true, lt-ltb, ltb-true, eq-eqb}
use lib.ListN.{length, take, drop, length-append}
use lib.Seq.{take_at, drop_at}
use lib.Dec.{leb, ltb, eqb}
use mathlib.Mathlib.Data.Bool.Basic.{and-eq-true-eq-eq-true-and-eq-true as both}
use Rattle.wire.specs.names.Names.{name_at, is_name}
use Rattle.wire.specs.case_folding.Fold.{same_name}
use Rattle.wire.proofs.case_folding.Equal.{same_refl}
use Rattle.wire.specs.nsec.Nsec.{is_block, is_nsec}
use Rattle.wire.specs.rdata.Rdata.{strings_fill, plain_form, form_of}
use Rattle.wire.specs.declared.rdata.Form.{Form}
use Rattle.wire.specs.labels.Counted.{labels_in, starts}
use Rattle.writer.specs.Writer.{labels_for}
use Rattle.writer.specs.Fit.{form_for, held_name, holds_name, is_found, is_shaped, fit_record}

-- the form of rdata for an owner
module _ (owner : List ℕ) (rtype : ℕ) (d : List ℕ) where
  abbrev by_kind : Bool → Form
  by_kind b = cond b (record { named = true; before = 0; behind = length d - length owner }) plain_form

  module _ (type : rtype ≡ 47) (v : Bool) (is : v ≡ is_nsec owner d) where
    kind : form_for owner rtype d ≡ by_kind v
    unfolding form_for
    kind = ap (λ (b : Bool). cond b (by_kind (is_nsec owner d)) (form_of rtype)) (eq-eqb _ _ type) ∙ ap by_kind (sym is)

    pub form_nsec : v ≡ true → ◌≡◌ {A = Form} (record { named = true; before = 0; behind = length d - length owner }) (form_for owner rtype d)
    form_nsec e = sym (kind ∙ ap by_kind e)

-- rdata as its type asks: by its form where it holds a name, else by its type
module _ (owner : List ℕ) (rtype : ℕ) (d : List ℕ) (g : Form) (same : g ≡ form_for owner rtype d) where
  abbrev plainly : Bool
  plainly =
      cond (eqb rtype 1) (eqb (length d) 4)
      (cond (eqb rtype 16) (strings_fill 0 d) (cond (eqb rtype 28) (eqb (length d) 16) (cond (eqb rtype 47) (is_found (name_at d 0)) true)))

  shaped_so : is_shaped owner rtype d ≡ cond g.named (holds_name g d) plainly
  unfolding is_shaped
  shaped_so = sym (ap (λ (y : Form). cond y.named (holds_name y d) plainly) same)

  module _ (t : g.named ≡ true) where
    held-so : is_shaped owner rtype d ≡ holds_name g d
    held-so = shaped_so ∙ ap (λ (b : Bool). cond b (holds_name g d) plainly) t

    pub by_name : g.before + g.behind ≤ length d → (w : Bool) → w ≡ is_name (held_name g d) → w ≡ is_shaped owner rtype d
    by_name h w e = sym (held-so ∙ simp (le-leb _ _ h) (sym e))

-- a record that is fit, test by test
module _ (owner : List ℕ) (rtype ttl : ℕ) (d : List ℕ) where
  pub fit_parts : fit_record owner rtype ttl d ≡ true → (is_name owner ≡ true) × (is_shaped owner rtype d ≡ true) × (length d ≤ 65535) × (ttl < 2147483648)
  unfolding fit_record
  fit_parts h =
      let f = (both (is_name owner) (is_shaped owner rtype d && (leb (length d) 65535 && ltb ttl 2147483648))).0 h in
      let g = (both (is_shaped owner rtype d) (leb (length d) 65535 && ltb ttl 2147483648)).0 f.1 in
      let k = (both (leb (length d) 65535) (ltb ttl 2147483648)).0 g.1 in
      (f.0, g.0, leb-true _ _ k.0, ltb-true _ _ k.1)

  pub fit_short : fit_record owner rtype ttl d ≡ true → length d ≤ 65535
  fit_short h = (fit_parts h).2

  pub fit_of : is_name owner ≡ true → is_shaped owner rtype d ≡ true → length d ≤ 65535 → ttl < 2147483648 → fit_record owner rtype ttl d ≡ true
  unfolding fit_record
  fit_of a b l t = simp (a, b, le-leb _ _ l, lt-ltb _ _ t)

-- the labels of the name in rdata: none where there is no room for one
pub none_there : (g : Form) (d : List ℕ) → length d < g.before + g.behind → 0 ≡ labels_for g d
unfolding labels_for starts
none_there g d h =
    let z : length d - g.behind - g.before ≡ 0 = omega arith in
    sym (go g.named (ap (λ (k : ℕ). labels_in (take k (drop g.before d))) z))
  where
    go : (b : Bool) → labels_in (held_name g d) ≡ 0 → cond b (labels_in (held_name g d)) 0 ≡ 0
    go true e = e
    go false e = refl

module _ (g : Form) (d : List ℕ) where
  module _ (t : g.named ≡ true) where
    pub by-labels : (m : ℕ) → m ≡ labels_in (held_name g d) → m ≡ labels_for g d
    unfolding labels_for
    by-labels m e = sym (simp t (sym e))

-- rdata that is the owner's name again and a window block
module _ (owner block : List ℕ) (ok : is_name owner ≡ true) (b : is_block block ≡ true) where
  abbrev again : Form
  again = record { named = true; before = 0; behind = length block }

  restricted : is_nsec owner (owner ++ block) ≡ true
  unfolding is_nsec
  restricted =
      simp
      (ap (same_name owner) (take_at owner block (length owner) refl) ∙ same_refl owner, ap is_block (drop_at owner block (length owner) refl) ∙ b)

  again-form : again ≡ form_for owner 47 (owner ++ block)
  again-form =
      let n : length block ≡ length (owner ++ block) - length owner = omega (arith, length-append owner block) in
      let e : again ≡ record { named = true; before = 0; behind = length (owner ++ block) - length owner } =
      ap (λ (k : ℕ). record { named = true; before = 0; behind = k }) n in
      e ∙ form_nsec owner 47 (owner ++ block) refl true (sym restricted) refl

  again-name : held_name again (owner ++ block) ≡ owner
  again-name =
      let n : length owner ≡ length (owner ++ block) - length block - 0 = omega (arith, length-append owner block) in
      take_at owner block (length (owner ++ block) - length block - 0) n

  pub again-shaped : is_shaped owner 47 (owner ++ block) ≡ true
  again-shaped =
      let room : 0 + length block ≤ length (owner ++ block) = omega (arith, length-append owner block) in
      sym (by_name owner 47 (owner ++ block) again again-form refl room true (sym (ap is_name again-name ∙ ok)))

  pub again-labels : labels_for (form_for owner 47 (owner ++ block)) (owner ++ block) ≡ labels_in owner
  again-labels =
      ap (λ (g : Form). labels_for g (owner ++ block)) (sym again-form)
      ∙ sym (by-labels again (owner ++ block) refl (labels_in owner) (ap labels_in (sym again-name)))
