-- What hearing a record answers, and what it leaves in the slot, from what the code has read. Assumes nothing.
use Rattle.std.proofs.Common.{None, Option, Some}
use mathlib.Core.Path.{◌≡◌, refl, sym, ap, ap₂, ◌∙◌}
use mathlib.Core.List.{List, [], ◌∷◌, ◌++◌, append_assoc, append-nil}
use mathlib.Core.Bool.{Bool, true, false, cond, ◌&&◌}
use native.Mathlib.Nat.{zero-add}
use Prim.Native.Nat.{ℕ, zero, suc, ◌+◌, ◌-◌, ◌<◌, ◌≤◌}
use native.Mathlib.Omega.{arith}
use lib.ListN.{length, take, drop, take-append-drop, length-append, length-drop}
use lib.Seq.{sets, length-sets, sets-eq, take_all, drop-nil, drop-drop, length-take-le}
use borrow.Rule.Slice.PartMut.{put_mid}
use lib.Dec.{leb}
use borrow.Author.Tests.{lt-leb, le-leb, leb-true, eq-eqb, ne_eqb}
use Rattle.wire.specs.names.Names.{Reading, name, malformed, name_at}
use Rattle.wire.specs.names.Answers.{found_of}
use Rattle.wire.specs.runs.Written.{with_name}
use Rattle.wire.specs.declared.names.Span.{Span}
use Rattle.wire.proofs.names.Use.{as_name, as_malformed, at_most-255}
use Rattle.wire.proofs.runs.Use.{with-malformed, with-fitting, with-length}
use Rattle.wire.specs.octets.Octets.{word16, word32}
use Rattle.wire.specs.message.Message.{ttl_of}
use Rattle.wire.specs.message.Layout.{record_behind, record_read}
use Rattle.wire.specs.message.Readable.{whole_from, whole_read}
use Rattle.wire.proofs.message.Fields.{record_bad, record_behind_lem}
use Rattle.wire.specs.rdata.Rdata.{Rdata, rdata, unfit, ending_name, form_at, rdata_at}
use Rattle.wire.specs.rdata.Answers.{fits, data_of}
use Rattle.wire.proofs.rdata.Forms.{around_small}
use Rattle.wire.proofs.expansion.Views.{is-unfit, plain-is}
use Rattle.wire.specs.declared.rdata.Form.{Form}
use Rattle.wire.specs.declared.message.RecordAt.{RecordAt}
use Rattle.cache.specs.records.Heard.{heard_of, heard_at}
use Rattle.cache.specs.declared.records.Heard.{Heard}
use Rattle.capi_cache.specs.hearing.Hearing.{heard_with, name_over, named_over, rdata_over, record_over, owner_over, heard_in}
use Rattle.capi_cache.proofs.hearing.Shown.{named-rdata}

-- a part of a slot, from a place to its end, that a name was written into
rest_written : (s : List ℕ) (place : ℕ) (x : Reading) (last : List ℕ) → last ≡ with_name (take (length s - place) (drop place s)) x
    → put_mid place (length s - place) s last ≡ take place s ++ with_name (drop place s) x
rest_written s place x last e =
    let rest : take (length s - place) (drop place s) ≡ drop place s = take_all (length s - place) (drop place s) (omega (arith, length-drop place s)) in
    let none : drop (length s - place) (drop place s) ≡ [] = drop_all (length s - place) (drop place s) (omega (arith, length-drop place s)) in
    ap₂ (λ (a b : List ℕ). take place s ++ (a ++ b)) (e ∙ ap (λ (l : List ℕ). with_name l x) rest) none ∙ ap (λ (l : List ℕ). take place s ++ l) (append-nil (with_name (drop place s) x))
  where
    drop_all : (n : ℕ) (l : List ℕ) → length l ≤ n → drop n l ≡ []
    drop_all n [] h = drop-nil n
    drop_all zero (y ∷ l) h = absurd (omega arith)
    drop_all (suc n) (y ∷ l) h = drop_all n l (omega arith)

-- the record by what its rdata is
module _ (p : List ℕ) (f : RecordAt) where
  by-rdata : (x : Rdata) → rdata_at p f ≡ x → heard_with p f ≡ heard_of p (cond (fits x) (Some f) None)
  by-rdata x e = ap (λ (y : Rdata). heard_of p (cond (fits y) (Some f) None)) e

  pub heard-unfit : rdata_at p f ≡ unfit → None ≡ heard_with p f
  heard-unfit e = sym (by-rdata unfit e)

  pub heard-fit : (d : List ℕ) → rdata_at p f ≡ rdata d → (n : ℕ) → n ≡ length d → (named : Bool) → named ≡ (form_at p f).named
      → ◌≡◌ {A = Option Heard} (Some (record { whole = true; at = f; len = n; named = named })) (heard_with p f)
  heard-fit d e n size named m =
      ap₂ (λ (k : ℕ) (b : Bool). Some (record { whole = true; at = f; len = k; named = b })) (size ∙ sym (ap (λ (x : Rdata). length (data_of x)) e)) m ∙ sym (by-rdata (rdata d) e)

  -- rdata that holds no name
  module _ (g : Form) (is : g ≡ form_at p f) (n : g.named ≡ false) where
    abbrev part : List ℕ
    part = take f.rdlength (drop f.rdata p)

    none : (form_at p f).named ≡ false
    none = sym (ap (λ (y : Form). y.named) is) ∙ n

    pub plain_over : (slot : List ℕ) → sets slot 256 part ≡ rdata_over p f slot
    unfolding rdata_over
    plain_over slot = sym (simp none)

    pub plain-not : (b : Bool) → b ≡ fits (rdata_at p f) → b ≡ false → None ≡ heard_with p f
    plain-not b e k = heard-unfit (is-unfit (rdata_at p f) (sym e ∙ k))

    pub plain-heard : f.rdata + f.rdlength ≤ length p → (b : Bool) → b ≡ fits (rdata_at p f) → b ≡ true
        → ◌≡◌ {A = Option Heard} (Some (record { whole = true; at = f; len = f.rdlength; named = false })) (heard_with p f)
    plain-heard room b e k =
        let d = plain-is p f none (sym e ∙ k) in
        heard-fit part d f.rdlength (sym (length-take-le f.rdlength (drop f.rdata p) (omega (arith, length-drop f.rdata p, room)))) false (sym none)

  -- rdata that holds one
  module _ (room : f.rdata + f.rdlength ≤ length p) (g : Form) (is : g ≡ form_at p f) (t : g.named ≡ true) where
    abbrev to : ℕ
    to = f.rdata + (f.rdlength - g.behind)

    abbrev front : List ℕ
    front = take g.before (drop f.rdata p)

    abbrev back : List ℕ
    back = take g.behind (drop to p)

    abbrev x : Reading
    x = name_at p (f.rdata + g.before)

    named-is : true ≡ (form_at p f).named
    named-is = sym t ∙ ap (λ (y : Form). y.named) is

    pub over_named : (slot : List ℕ) → named_over p f g slot ≡ rdata_over p f slot
    unfolding rdata_over
    over_named slot = ap (λ (y : Form). named_over p f y slot) is ∙ sym (simp (sym named-is))

    pub around : g.before + g.behind ≤ 34
    around = let k = around_small p f (take f.rdlength (drop f.rdata p)) in omega (arith, k, ap (λ (y : Form). y.before) is, ap (λ (y : Form). y.behind) is)

    ends_by : rdata_at p f ≡ cond (leb (g.before + g.behind) f.rdlength) (ending_name front back to x) unfit
    ends_by =
        named-rdata p f room (sym named-is)
        ∙ ap (λ (y : Form). cond (leb (y.before + y.behind) f.rdlength) (ending_name (take y.before (drop f.rdata p)) (take y.behind (drop (f.rdata + (f.rdlength - y.behind)) p)) (f.rdata + (f.rdlength - y.behind)) (name_at p (f.rdata + y.before))) unfit) (sym is)

    pub named-short : (slot : List ℕ) → f.rdlength < g.before + g.behind → (None ≡ heard_with p f) × (slot ≡ named_over p f g slot)
    named-short slot l = (heard-unfit (ends_by ∙ simp (lt-leb _ _ l)), sym (simp (lt-leb _ _ l)))

    module _ (l : g.before + g.behind ≤ f.rdlength) (n : Option Span) (n-is : n ≡ found_of x) (slot : List ℕ) (size : length slot ≡ 1024) (s₁ : List ℕ) (s₁_is : s₁ ≡ sets slot 256 front) where
      ending : rdata_at p f ≡ ending_name front back to x
      ending = ends_by ∙ simp (le-leb _ _ l)

      over : named_over p f g slot ≡ name_over (256 + g.before) back x (sets slot 256 front)
      over = simp (le-leb _ _ l)

      long : length s₁ ≡ 1024
      long = ap length s₁_is ∙ length-sets slot 256 front ∙ size

      -- a malformed name leaves the slot as it was
      pub named-malformed : n ≡ None → (last : List ℕ) → last ≡ with_name (take (length s₁ - (256 + g.before)) (drop (256 + g.before) s₁)) x → (None ≡ heard_with p f) × (put_mid (256 + g.before) (length s₁ - (256 + g.before)) s₁ last ≡ named_over p f g slot)
      named-malformed k last e =
          let bad : x ≡ malformed = as_malformed x n n-is k in (
            heard-unfit (ending ∙ ap (ending_name front back to) bad),
            rest_written s₁ (256 + g.before) x last e ∙ ap (λ (q : List ℕ). take (256 + g.before) s₁ ++ q) (with-malformed (drop (256 + g.before) s₁) x bad) ∙ take-append-drop (256 + g.before) s₁ ∙ s₁_is
                ∙ sym (over ∙ ap (λ (y : Reading). name_over (256 + g.before) back y (sets slot 256 front)) bad),
          )

      module _ (s : Span) (k : n ≡ Some s) (last : List ℕ) (e : last ≡ with_name (take (length s₁ - (256 + g.before)) (drop (256 + g.before) s₁)) x) where
        abbrev s₂ : List ℕ
        s₂ = put_mid (256 + g.before) (length s₁ - (256 + g.before)) s₁ last

        found : (bs : List ℕ) × (x ≡ name bs s.end) × (length bs ≡ s.len)
        found = let q = as_name x n s n-is k in (q.0, q.1, q.2)

        abbrev bs : List ℕ
        bs = found.0

        pub span_small : s.len ≤ 255
        span_small = omega (arith, at_most-255 p (f.rdata + g.before) bs s.end found.1, found.2)

        written : s₂ ≡ sets (sets slot 256 front) (256 + g.before) bs
        written =
            let place : 256 + g.before + length bs ≤ length s₁ = omega (arith, long, around, span_small, found.2) in
            rest_written s₁ (256 + g.before) x last e ∙ ap (λ (q : List ℕ). take (256 + g.before) s₁ ++ q) (with-fitting (drop (256 + g.before) s₁) x bs s.end found.1 (omega (arith, length-drop (256 + g.before) s₁, place)))
            ∙ ap (λ (q : List ℕ). take (256 + g.before) s₁ ++ (bs ++ q)) (drop-drop (length bs) (256 + g.before) s₁)
            ∙ sym (sets-eq bs s₁ (256 + g.before) place ∙ append_assoc (take (256 + g.before) s₁) bs (drop (256 + g.before + length bs) s₁)) ∙ ap (λ (q : List ℕ). sets q (256 + g.before) bs) s₁_is

        pub named-over : (s₃ : List ℕ) → s₃ ≡ sets s₂ (256 + g.before + s.len) back → s₃ ≡ named_over p f g slot
        named-over s₃ e₃ =
            e₃ ∙ ap₂ (λ (q : List ℕ) (m : ℕ). sets q (256 + g.before + m) back) written (sym found.2)
            ∙ sym (over ∙ ap (λ (y : Reading). name_over (256 + g.before) back y (sets slot 256 front)) found.1)

        pub named-elsewhere : (s.end ≡ to → ⊥) → None ≡ heard_with p f
        named-elsewhere z = heard-unfit (ending ∙ ap (ending_name front back to) found.1 ∙ simp (ne_eqb _ _ z))

        pub named-heard : s.end ≡ to → ◌≡◌ {A = Option Heard} (Some (record { whole = true; at = f; len = g.before + s.len + g.behind; named = true })) (heard_with p f)
        named-heard z =
            let a : length front ≡ g.before = length-take-le g.before (drop f.rdata p) (omega (arith, length-drop f.rdata p, room, l)) in
            let b : length back ≡ g.behind = length-take-le g.behind (drop to p) (omega (arith, length-drop to p, room, l)) in
            heard-fit (front ++ (bs ++ back)) (ending ∙ ap (ending_name front back to) found.1 ∙ simp (eq-eqb _ _ z)) (g.before + s.len + g.behind)
            (omega (arith, a, b, found.2, length-append front (bs ++ back), length-append bs back)) true named-is

-- past the rdata of a record
abbrev past : Option RecordAt → ℕ
past (Some f) = f.rdata + f.rdlength
past None = 0

-- the record at an offset, from its owner, which was written over the slot
module _ (p : List ℕ) (at : ℕ) (slot : List ℕ) (size : length slot ≡ 1024) (n : Option Span) (n-is : n ≡ found_of (name_at p at)) (s₁ : List ℕ) (s₁_is : s₁ ≡ with_name slot (name_at p at)) where
  owner_over_lem : s₁ ≡ owner_over (name_at p at) slot
  owner_over_lem = s₁_is ∙ go (name_at p at) refl
    where
      go : (x : Reading) → name_at p at ≡ x → with_name slot x ≡ owner_over x slot
      go (name bs e) k =
          let fits : length bs ≤ length slot = omega (arith, at_most-255 p at bs e k, size) in
          with-fitting slot (name bs e) bs e refl fits ∙ sym (sets-eq bs slot 0 (omega (arith, fits)) ∙ ap (λ (m : ℕ). bs ++ drop m slot) (zero-add (length bs)))
      go malformed k = refl

  pub owner_size : length s₁ ≡ 1024
  owner_size = ap length s₁_is ∙ with-length slot (name_at p at) ∙ size

  by-record : (y : Option RecordAt) → record_read p at ≡ y → (heard_of p (whole_from p y) ≡ heard_at p at) × (record_over p y s₁ ≡ heard_in p at slot)
  unfolding heard_at heard_in whole_read
  by-record y e = (ap (λ (z : Option RecordAt). heard_of p (whole_from p z)) (sym e), ap₂ (record_over p) (sym e) owner_over_lem)

  pub no_owner : n ≡ None → (None ≡ heard_at p at) × (s₁ ≡ heard_in p at slot)
  no_owner k = by-record None (sym (record_bad p at n n-is k))

  module _ (s : Span) (k : n ≡ Some s) (a : Option RecordAt) (is : a ≡ record_behind p at s) where
    pub no_record_lem : a ≡ None → (None ≡ heard_at p at) × (s₁ ≡ heard_in p at slot)
    no_record_lem e = by-record None (sym (record_behind_lem p at n n-is s k a is) ∙ e)

    module _ (f : RecordAt) (e : a ≡ Some f) where
      pub a-record : (h : Option Heard) (last : List ℕ) → (h ≡ heard_with p f) × (last ≡ rdata_over p f s₁) → (h ≡ heard_at p at) × (last ≡ heard_in p at slot)
      a-record h last w = let q = by-record (Some f) (sym (record_behind_lem p at n n-is s k a is) ∙ e) in (w.0 ∙ q.0, w.1 ∙ q.1)

      pub rdata-within : f.rdata + f.rdlength ≤ length p
      rdata-within = go (leb (s.end + 10) (length p)) (leb (s.end + 10 + word16 p (s.end + 8)) (length p)) refl (ap past (sym is ∙ e))
        where
          go : (b c : Bool) → leb (s.end + 10 + word16 p (s.end + 8)) (length p) ≡ c
              → past (cond (b && c) (Some (record { owner = at; span = s; rtype = word16 p s.end; class = word16 p (s.end + 2); ttl = ttl_of (word32 p (s.end + 4)); rdata = s.end + 10; rdlength = word16 p (s.end + 8); next = s.end + 10 + word16 p (s.end + 8) })) None) ≡ f.rdata + f.rdlength
              → f.rdata + f.rdlength ≤ length p
          go true true l q = let w = leb-true (s.end + 10 + word16 p (s.end + 8)) (length p) l in omega (arith, w, q)
          go true false l q = let z : 0 ≡ f.rdata + f.rdlength = q in omega (arith, z)
          go false c l q = let z : 0 ≡ f.rdata + f.rdlength = q in omega (arith, z)
