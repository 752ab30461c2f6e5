-- The bytes of rdata: where it holds a name they have been opened, else they lie in the packet. Assumes nothing.
use Rattle.std.specs.Prelude.{None, Some}
use mathlib.Core.Path.{◌≡◌, refl, sym, ap, ap₂, ◌∙◌}
use mathlib.Core.List.{List, [], ◌++◌, append_assoc}
use mathlib.Core.Bool.{Bool, true, false, cond}
use Prim.Native.Nat.{ℕ, ◌+◌, ◌-◌, ◌≤◌}
use native.Mathlib.Nat.{add-sub_cancel_left}
use native.Mathlib.Omega.{arith}
use borrow.Author.Tests.{leb-true}
use lib.ListN.{length, take, drop, replicate, length-append, length-take, length-drop}
use lib.Seq.{sets, take_at, take-take, drop-drop, length-take-le}
use lib.Dec.{eqb, leb}
use Rattle.wire.proofs.octets.Sets.{sets-append, filled}
use Rattle.wire.specs.names.Names.{Reading, name, malformed, name_at}
use Rattle.wire.specs.names.Answers.{expanded}
use Rattle.wire.specs.declared.names.Span.{Span}
use Rattle.wire.specs.declared.names.Expanded.{Expanded}
use Rattle.wire.proofs.names.Use.{as_expanded, as_unexpanded, at_most-255}
use Rattle.wire.specs.rdata.Rdata.{Rdata, rdata, unfit, strings_fill, as_it_lies, ending_name, form_at, with_name, rdata_in, rdata_at}
use Rattle.wire.specs.rdata.Answers.{fits, start_in}
use Rattle.wire.proofs.rdata.Fits.{at-within, in_named}
use Rattle.wire.proofs.rdata.Forms.{drop-take, around_small}
use Rattle.wire.specs.expansion.Equal.{same_bytes, rdata_is}
use Rattle.wire.specs.expansion.Opened.{padded, opened_of, opened_name, opened_at, view_of, view_start}
use Rattle.wire.specs.declared.rdata.Form.{Form}
use Rattle.wire.specs.declared.message.RecordAt.{RecordAt}
use Rattle.wire.specs.declared.expansion.Opened.{Opened}

-- a name between `before` and `behind` bytes, written one after the other
module _ (p : List ℕ) (at len before behind : ℕ) (small : before + behind ≤ 34) (part : before + behind ≤ len) (room : at + len ≤ length p)
    (e : Expanded) (h : e ≡ expanded (name_at p (at + before))) where
  abbrev to : ℕ
  to = at + (len - behind)

  abbrev front : List ℕ
  front = take before (drop at p)

  abbrev back : List ℕ
  back = take behind (drop to p)

  front_long : length front ≡ before
  front_long = length-take-le before (drop at p) (omega (arith, length-drop at p))

  back_long : length back ≡ behind
  back_long = length-take-le behind (drop to p) (omega (arith, length-drop to p))

  pub opened-bad : e.name ≡ None → ◌≡◌ {A = Opened} (record { len = 0; bytes = replicate 289 0 }) (opened_name front back (name_at p (at + before)))
  opened-bad k = simp (as_unexpanded (name_at p (at + before)) e e.name h refl k)

  module _ (s : Span) (k : e.name ≡ Some s) where
    found : (bs : List ℕ) × (name_at p (at + before) ≡ name bs s.end) × (length bs ≡ s.len) × (take s.len e.bytes ≡ bs)
    found = as_expanded (name_at p (at + before)) e e.name s h refl k

    pub span_small : s.len ≤ 255
    span_small = omega (arith, at_most-255 p (at + before) found.0 s.end found.1, found.2)

    pub span_long : s.len ≡ length (take s.len e.bytes)
    span_long = sym (ap length found.3 ∙ found.2)

    pub span_fits : s.len ≤ length e.bytes
    span_fits = omega (arith, length-take s.len e.bytes, span_long)

    pub opened-found : (o₁ o₂ o₃ : List ℕ) → o₁ ≡ sets (replicate 289 0) 0 (take (at + before - at) (drop at p)) → o₂ ≡ sets o₁ before (take s.len e.bytes)
        → o₃ ≡ sets o₂ (before + s.len) (take (to + behind - to) (drop to p))
        → ◌≡◌ {A = Opened} (record { len = before + s.len + behind; bytes = o₃ }) (opened_name front back (name_at p (at + before)))
    opened-found o₁ o₂ o₃ e₁ e₂ e₃ =
        let bs = found.0 in
        let zs : List ℕ = replicate 289 0 in
        let a₁ : o₁ ≡ sets zs 0 front = e₁ ∙ ap (λ (n : ℕ). sets zs 0 (take n (drop at p))) (add-sub_cancel_left at before) in
        let at_name : before ≡ 0 + length front = omega (arith, front_long) in
        let a₂ : o₂ ≡ sets zs 0 (front ++ bs) =
        e₂ ∙ ap (sets o₁ before) found.3 ∙ ap (λ (o : List ℕ). sets o before bs) a₁ ∙ ap (λ (j : ℕ). sets (sets zs 0 front) j bs) at_name
        ∙ sets-append zs 0 front bs in
        let at_back : before + s.len ≡ 0 + length (front ++ bs) = omega (arith, front_long, found.2, length-append front bs) in
        let a₃ : o₃ ≡ sets zs 0 ((front ++ bs) ++ back) =
        e₃ ∙ ap (λ (n : ℕ). sets o₂ (before + s.len) (take n (drop to p))) (add-sub_cancel_left to behind)
        ∙ ap (λ (o : List ℕ). sets o (before + s.len) back) a₂ ∙ ap (λ (j : ℕ). sets (sets zs 0 (front ++ bs)) j back) at_back
        ∙ sets-append zs 0 (front ++ bs) back in
        let all : (front ++ bs) ++ back ≡ front ++ (bs ++ back) = append_assoc front bs back in
        let long : length (front ++ (bs ++ back)) ≡ before + s.len + behind =
        omega (arith, front_long, back_long, found.2, length-append front (bs ++ back), length-append bs back) in
        let fits : length (front ++ (bs ++ back)) ≤ 289 = omega (arith, long, span_small) in
        let body : o₃ ≡ (front ++ (bs ++ back)) ++ replicate (289 - length (front ++ (bs ++ back))) 0 =
        a₃ ∙ ap (sets zs 0) all ∙ filled 289 (front ++ (bs ++ back)) fits in
        simp found.1 (λ i. record { len = sym long i; bytes = body i })

-- what fits is rdata
pub is-rdata : (x : Rdata) → fits x ≡ true → (d : List ℕ) × (x ≡ rdata d)
is-rdata (rdata d) h = (d, refl)
is-rdata unfit h = let z : ◌≡◌ {A = ℕ} 0 1 = cc in absurd (omega arith)

pub is-unfit : (x : Rdata) → fits x ≡ false → x ≡ unfit
is-unfit (rdata d) h = let z : ◌≡◌ {A = ℕ} 0 1 = cc in absurd (omega arith)
is-unfit unfit h = refl

-- a name that ends where it has to, opened, is the rdata
open_ending : (front back : List ℕ) (end : ℕ) (x : Reading) → fits (ending_name front back end x) ≡ true → opened_name front back x ≡ opened_of (ending_name front back end x)
open_ending front back end (name bs e) h = go (eqb e end) h
  where
    go : (b : Bool) → fits (cond b (rdata (front ++ (bs ++ back))) unfit) ≡ true → padded (front ++ (bs ++ back)) ≡ opened_of (cond b (rdata (front ++ (bs ++ back))) unfit)
    go true g = refl
    go false g = let z : ◌≡◌ {A = ℕ} 0 1 = cc in absurd (omega arith)
open_ending front back end malformed h = refl

module _ (p : List ℕ) (f : RecordAt) where
  abbrev part : List ℕ
  part = take f.rdlength (drop f.rdata p)

  abbrev before : ℕ
  before = (form_at p f).before

  abbrev behind : ℕ
  behind = (form_at p f).behind

  -- rdata that fits lies in the packet
  pub within : fits (rdata_at p f) ≡ true → f.rdata + f.rdlength ≤ length p
  unfolding rdata_at
  within h = go (leb (f.rdata + f.rdlength) (length p)) refl h
    where
      go : (b : Bool) → leb (f.rdata + f.rdlength) (length p) ≡ b → fits (cond b (rdata_in p f part) unfit) ≡ true → f.rdata + f.rdlength ≤ length p
      go true e g = leb-true (f.rdata + f.rdlength) (length p) e
      go false e g = let z : ◌≡◌ {A = ℕ} 0 1 = cc in absurd (omega arith)

  in_part : fits (rdata_at p f) ≡ true → rdata_at p f ≡ rdata_in p f part
  in_part h = at-within p f (within h)

  long : fits (rdata_at p f) ≡ true → length part ≡ f.rdlength
  long h = length-take-le f.rdlength (drop f.rdata p) (omega (arith, length-drop f.rdata p, within h))

  pub open_unfit : fits (rdata_at p f) ≡ false → ◌≡◌ {A = Opened} (record { len = 0; bytes = replicate 289 0 }) (opened_at p f)
  open_unfit h = go (form_at p f).named
    where
      go : (b : Bool) → ◌≡◌ {A = Opened} (padded []) (cond b (opened_of (rdata_at p f)) (padded []))
      go true = sym (ap opened_of (is-unfit (rdata_at p f) h))
      go false = refl

  -- rdata that holds a name has the bytes around it
  module _ (t : (form_at p f).named ≡ true) (h : fits (rdata_at p f) ≡ true) where
    abbrev ends : Rdata
    ends = ending_name (take before part) (drop (length part - behind) part) (f.rdata + (length part - behind)) (name_at p (f.rdata + before))

    around_name : (before + behind ≤ f.rdlength) × (rdata_at p f ≡ ends)
    around_name = go (leb (before + behind) (length part)) refl (in_part h ∙ in_named p part f t)
      where
        go : (b : Bool) → leb (before + behind) (length part) ≡ b → rdata_at p f ≡ cond b ends unfit → (before + behind ≤ f.rdlength) × (rdata_at p f ≡ ends)
        go true l g = (omega (arith, leb-true (before + behind) (length part) l, long h), g)
        go false l g =
            let k : fits (rdata_at p f) ≡ false = ap fits g in
            let z : ◌≡◌ {A = ℕ} 0 1 = cc in absurd (omega arith)

    open_name : (o : Opened)
        → o ≡ opened_name (take before (drop f.rdata p)) (take behind (drop (f.rdata + (f.rdlength - behind)) p)) (name_at p (f.rdata + before)) → o ≡ opened_at p f
    open_name o k =
        let s = around_name in
        let n : ℕ = f.rdlength - behind in
        let first : take before part ≡ take before (drop f.rdata p) = take-take before f.rdlength (drop f.rdata p) (omega (arith, s.0)) in
        let left : f.rdlength - n ≡ behind = omega (arith, s.0) in
        let last : drop (length part - behind) part ≡ take behind (drop (f.rdata + n) p) =
        ap (λ (m : ℕ). drop (m - behind) part) (long h) ∙ drop-take n f.rdlength (drop f.rdata p)
        ∙ ap (λ (m : ℕ). take m (drop n (drop f.rdata p))) left ∙ ap (take behind) (drop-drop n f.rdata p) in
        k ∙ ap₂ (λ (l m : List ℕ). opened_name l m (name_at p (f.rdata + before))) (sym first) (sym last)
        ∙ open_ending (take before part) (drop (length part - behind) part) (f.rdata + (length part - behind)) (name_at p (f.rdata + before)) (sym (ap fits s.1) ∙ h)
        ∙ ap opened_of (sym s.1) ∙ sym (ap (λ (b : Bool). cond b (opened_of (rdata_at p f)) (padded [])) t)

  -- from the form that the code has found
  module _ (g : Form) (is : g ≡ form_at p f) where
    named-is : (b : Bool) → g.named ≡ b → (form_at p f).named ≡ b
    named-is b e = sym (ap (λ (y : Form). y.named) is) ∙ e

    before-is : g.before ≡ before
    before-is = ap (λ (y : Form). y.before) is

    behind-is : g.behind ≡ behind
    behind-is = ap (λ (y : Form). y.behind) is

    module _ (e : g.named ≡ true) (h : fits (rdata_at p f) ≡ true) where
      pub name-room : (g.before + g.behind ≤ 34) × (g.before + g.behind ≤ f.rdlength) × (f.rdata + f.rdlength ≤ length p)
      name-room =
          (omega (arith, before-is, behind-is, around_small p f part), omega (arith, before-is, behind-is, (around_name (named-is true e) h).0), within h)

      pub open_named : (o : Opened)
          → o ≡ opened_name (take g.before (drop f.rdata p)) (take g.behind (drop (f.rdata + (f.rdlength - g.behind)) p)) (name_at p (f.rdata + g.before))
          → o ≡ opened_at p f
      open_named o k =
          open_name (named-is true e) h o
          (k ∙ ap (λ (y : Form). opened_name (take y.before (drop f.rdata p)) (take y.behind (drop (f.rdata + (f.rdlength - y.behind)) p)) (name_at p (f.rdata + y.before))) is)

    pub open_other : g.named ≡ false → ◌≡◌ {A = Opened} (record { len = 0; bytes = replicate 289 0 }) (opened_at p f)
    open_other e = sym (ap (λ (b : Bool). cond b (opened_of (rdata_at p f)) (padded [])) (named-is false e))

    -- the view of rdata that holds a name, and of other rdata: its bytes, and where they start
    module _ (opened : List ℕ) (n : ℕ) (place opened_place : ℕ × ℕ) where
      pub view_named : g.named ≡ true → (take n (drop 0 opened) ≡ view_of p opened n f) × (start_in opened 0 opened_place ≡ view_start p place opened opened_place f)
      view_named e =
          let t = named-is true e in
          (sym (ap (λ (b : Bool). cond b (take n opened) part) t), sym (ap (λ (b : Bool). cond b (start_in opened 0 opened_place) (start_in p f.rdata place)) t))

      pub view_plain : g.named ≡ false → (part ≡ view_of p opened n f) × (start_in p f.rdata place ≡ view_start p place opened opened_place f)
      view_plain e =
          let t = named-is false e in
          (sym (ap (λ (b : Bool). cond b (take n opened) part) t), sym (ap (λ (b : Bool). cond b (start_in opened 0 opened_place) (start_in p f.rdata place)) t))

  -- other rdata is the part of the packet
  pub plain-is : (form_at p f).named ≡ false → fits (rdata_at p f) ≡ true → rdata_at p f ≡ rdata part
  unfolding rdata_in
  plain-is t h = in_part h ∙ go part (eqb f.rtype 1) (eqb f.rtype 16) (eqb f.rtype 28) (form_at p f).named (eqb (length part) 4) (strings_fill 0 part) (eqb (length part) 16) t (sym (ap fits (in_part h)) ∙ h)
    where
      go : (d : List ℕ) (b₁ b₂ b₃ b₄ t₁ t₂ t₃ : Bool) → b₄ ≡ false
          → fits (cond b₁ (as_it_lies t₁ d) (cond b₂ (as_it_lies t₂ d) (cond b₃ (as_it_lies t₃ d) (cond b₄ (with_name p f.rdata d before behind) (rdata d))))) ≡ true
          → cond b₁ (as_it_lies t₁ d) (cond b₂ (as_it_lies t₂ d) (cond b₃ (as_it_lies t₃ d) (cond b₄ (with_name p f.rdata d before behind) (rdata d)))) ≡ rdata d
      go d true b₂ b₃ b₄ true t₂ t₃ e g = refl
      go d true b₂ b₃ b₄ false t₂ t₃ e g = let z : ◌≡◌ {A = ℕ} 0 1 = cc in absurd (omega arith)
      go d false true b₃ b₄ t₁ true t₃ e g = refl
      go d false true b₃ b₄ t₁ false t₃ e g = let z : ◌≡◌ {A = ℕ} 0 1 = cc in absurd (omega arith)
      go d false false true b₄ t₁ t₂ true e g = refl
      go d false false true b₄ t₁ t₂ false e g = let z : ◌≡◌ {A = ℕ} 0 1 = cc in absurd (omega arith)
      go d false false false false t₁ t₂ t₃ e g = refl
      go d false false false true t₁ t₂ t₃ e g = let z : ◌≡◌ {A = ℕ} 0 1 = cc in absurd (omega arith)

  -- the view of rdata that fits is the rdata
  pub view_is : fits (rdata_at p f) ≡ true → (o : Opened) → o ≡ opened_at p f → rdata_at p f ≡ rdata (view_of p o.bytes o.len f)
  view_is h o k = go (form_at p f).named refl
    where
      go : (b : Bool) → (form_at p f).named ≡ b → rdata_at p f ≡ rdata (view_of p o.bytes o.len f)
      go true t =
          let d = is-rdata (rdata_at p f) h in
          let o_is : o ≡ padded d.0 = k ∙ ap (λ (b : Bool). cond b (opened_of (rdata_at p f)) (padded [])) t ∙ ap opened_of d.1 in
          let front-is : take o.len o.bytes ≡ d.0 =
          ap (λ (y : Opened). take y.len y.bytes) o_is ∙ take_at d.0 (replicate (289 - length d.0) 0) (length d.0) refl in
          d.1 ∙ ap rdata (sym front-is ∙ sym (ap (λ (b : Bool). cond b (take o.len o.bytes) part) t))
      go false t = plain-is t h ∙ ap rdata (sym (ap (λ (b : Bool). cond b (take o.len o.bytes) part) t))

  pub is-nothing : (other : List ℕ) (v : Bool) → v ≡ fits (rdata_at p f) → v ≡ false → false ≡ rdata_is (rdata_at p f) other
  is-nothing other v e u = sym (ap (λ (x : Rdata). rdata_is x other) (is-unfit (rdata_at p f) (sym e ∙ u)))

  pub is-viewed : (v : Bool) → v ≡ fits (rdata_at p f) → v ≡ true → (o : Opened) → o ≡ opened_at p f
      → (seen : List ℕ) → seen ≡ view_of p o.bytes o.len f → (other : List ℕ) (r : Bool) → r ≡ same_bytes seen other → r ≡ rdata_is (rdata_at p f) other
  is-viewed v e t o k seen s other r h =
      h ∙ ap (λ (l : List ℕ). same_bytes l other) s ∙ sym (ap (λ (x : Rdata). rdata_is x other) (view_is (sym e ∙ t) o k))

  pub is-lying : (v : Bool) → v ≡ fits (rdata_at p f) → v ≡ true → (g : Form) → g ≡ form_at p f → g.named ≡ false
      → (seen : List ℕ) → seen ≡ part → (other : List ℕ) (r : Bool) → r ≡ same_bytes seen other → r ≡ rdata_is (rdata_at p f) other
  is-lying v e t g is n seen s other r h =
      h ∙ ap (λ (l : List ℕ). same_bytes l other) s ∙ sym (ap (λ (x : Rdata). rdata_is x other) (plain-is (named-is g is false n) (sym e ∙ t)))
