-- Every record of the five types that the reader reads is well formed here too. Assumes nothing.
use Rattle.std.specs.Prelude.{Option, Some, None}
use mathlib.Core.Path.{◌≡◌, refl, sym, ap, ◌∙◌}
use mathlib.Core.List.{List, [], ◌++◌, append-nil}
use mathlib.Core.Bool.{Bool, true, false, cond, ◌&&◌}
use Prim.Native.Nat.{ℕ, ◌+◌, ◌-◌, ◌≤◌}
use native.Mathlib.Omega.{arith}
use borrow.Author.Tests.{eqb-true, ne_eqb, le-leb, leb-true}
use lib.ListN.{length, take, drop, length-append, drop_of_length-le}
use lib.Seq.{drop_at, length-take-le}
use lib.Dec.{leb, eqb}
use Rattle.wire.specs.names.Names.{Reading, name, malformed, name_at, is_name}
use Rattle.wire.specs.rdata.Rdata.{rdata, unfit, strings_fill, as_it_lies, ending_name, form_of, form_in, with_name, rdata_in, rdata_at}
use Rattle.wire.specs.declared.rdata.Form.{Form}
use Rattle.wire.specs.message.Message.{Record}
use Rattle.wire.specs.message.Layout.{item, broken, record_at}
use Rattle.wire.specs.message.Readable.{whole_read, record_shown}
use Rattle.wire.specs.declared.message.RecordAt.{RecordAt}
use Rattle.wire.proofs.names.Plain.{expanded-is_name}
use Rattle.wire.proofs.message.Walk.{RecordMet, record_found, record_broken}
use Rattle.proxy.specs.records.Records.{fits_type}
use Rattle.proxy.specs.laws.Passing.{is_five, ReadWhole}

clash : {A : Type 0} → ◌≡◌ {A = ℕ} 0 1 → A
clash z = absurd (omega arith)

-- rdata that was read by a test is the bytes, and passed the test
lies : (b : Bool) (x d : List ℕ) → as_it_lies b x ≡ rdata d → (b ≡ true) × (x ≡ d)
lies true x d h = (refl, cc)
lies false x d h = let z : ◌≡◌ {A = ℕ} 0 1 = cc in clash z

-- rdata that was read around a name
ends : (front back : List ℕ) (end : ℕ) (x : Reading) (d : List ℕ) → ending_name front back end x ≡ rdata d
    → (bs : List ℕ) × (e : ℕ) × (x ≡ name bs e) × (d ≡ front ++ (bs ++ back))
ends front back end (name bs e) d h = go (eqb e end) h
  where
    go : (b : Bool) → cond b (rdata (front ++ (bs ++ back))) unfit ≡ rdata d → (cs : List ℕ) × (k : ℕ) × (name bs e ≡ name cs k) × (d ≡ front ++ (cs ++ back))
    go true g = (bs, e, refl, cc)
    go false g = let z : ◌≡◌ {A = ℕ} 0 1 = cc in clash z
ends front back end malformed d h = let z : ◌≡◌ {A = ℕ} 0 1 = cc in clash z

-- so the bytes before the name are there, and behind them a name
named-fits : (p : List ℕ) (at : ℕ) (x : List ℕ) (before : ℕ) (d : List ℕ) → with_name p at x before 0 ≡ rdata d
    → (before ≤ length d) × (is_name (drop before d) ≡ true)
named-fits p at x before d h = go (leb (before + 0) (length x)) refl h
  where
    back : List ℕ
    back = drop (length x - 0) x

    go : (b : Bool) → leb (before + 0) (length x) ≡ b → cond b (ending_name (take before x) back (at + (length x - 0)) (name_at p (at + before))) unfit ≡ rdata d
        → (before ≤ length d) × (is_name (drop before d) ≡ true)
    go true e g =
        let q = ends (take before x) back (at + (length x - 0)) (name_at p (at + before)) d g in
        let room : before ≤ length x = omega (arith, leb-true (before + 0) (length x) e) in
        let front : length (take before x) ≡ before = length-take-le before x room in
        let past : length x ≤ length x - 0 = omega arith in
        let none : back ≡ [] = drop_of_length-le x past in
        let rest : drop before d ≡ q.0 =
        ap (drop before) q.3 ∙ drop_at (take before x) (q.0 ++ back) before front ∙ ap (λ (l : List ℕ). q.0 ++ l) none ∙ append-nil q.0 in
        let long : before ≤ length d = omega (arith, front, ap length q.3, length-append (take before x) (q.0 ++ back)) in
        (long, ap is_name rest ∙ expanded-is_name p (at + before) q.0 q.1 q.2)
    go false e g = let z : ◌≡◌ {A = ℕ} 0 1 = cc in clash z

-- rdata of a type that the reader reads fits the type here
module _ (p : List ℕ) (f : RecordAt) (d : List ℕ) (five : is_five f.rtype ≡ true) where
  abbrev t : ℕ
  t = f.rtype

  abbrev part : List ℕ
  part = take f.rdlength (drop f.rdata p)

  by_name : (k before : ℕ) → t ≡ k → form_of k ≡ record { named = true; before = before; behind = 0 } → (k ≡ 47 → ⊥) → (k ≡ 1 → ⊥) → (k ≡ 16 → ⊥) → (k ≡ 28 → ⊥)
      → rdata_in p f part ≡ rdata d → fits_type t d ≡ true
  unfolding rdata_in form_in fits_type
  by_name k before e form n47 n1 n16 n28 h =
      let a : eqb t 47 ≡ false = ne_eqb t 47 (λ q. n47 (sym e ∙ q)) in
      let b : eqb t 1 ≡ false = ne_eqb t 1 (λ q. n1 (sym e ∙ q)) in
      let c : eqb t 16 ≡ false = ne_eqb t 16 (λ q. n16 (sym e ∙ q)) in
      let g : eqb t 28 ≡ false = ne_eqb t 28 (λ q. n28 (sym e ∙ q)) in
      let w : form_of t ≡ record { named = true; before = before; behind = 0 } = ap form_of e ∙ form in
      let v : rdata_in p f part ≡ with_name p f.rdata part before 0 =
      simp (b, c, g, a) (ap (λ (y : Form). cond y.named (with_name p f.rdata part y.before y.behind) (rdata part)) w) in
      let q = named-fits p f.rdata part before d (sym v ∙ h) in
      simp (b, c, g) (ap (λ (y : Form). y.named && (leb y.before (length d) && is_name (drop y.before d))) w ∙ simp
      (le-leb before (length d) q.0, q.1))

  fits_in : rdata_in p f part ≡ rdata d → fits_type t d ≡ true
  unfolding rdata_in fits_type is_five
  fits_in h = go (eqb t 1) refl (eqb t 16) refl (eqb t 28) refl (eqb t 12) refl (eqb t 33) refl
    where
      go : (a : Bool) → eqb t 1 ≡ a → (b : Bool) → eqb t 16 ≡ b → (c : Bool) → eqb t 28 ≡ c → (e : Bool) → eqb t 12 ≡ e → (g : Bool) → eqb t 33 ≡ g →
          fits_type t d ≡ true
      go true ea b eb c ec e ee g eg =
          let v : rdata_in p f part ≡ as_it_lies (eqb (length part) 4) part = simp ea in
          let q = lies (eqb (length part) 4) part d (sym v ∙ h) in
          simp ea (ap (λ (l : List ℕ). eqb (length l) 4) (sym q.1) ∙ q.0)
      go false ea true eb c ec e ee g eg =
          let v : rdata_in p f part ≡ as_it_lies (strings_fill 0 part) part = simp (ea, eb) in
          let q = lies (strings_fill 0 part) part d (sym v ∙ h) in
          let n : eqb t 28 ≡ false = ne_eqb t 28 (λ k. let z : 16 ≡ 28 = sym (eqb-true t 16 eb) ∙ k in omega arith) in
          simp (ea, n, eb) (ap (strings_fill 0) (sym q.1) ∙ q.0)
      go false ea false eb true ec e ee g eg =
          let v : rdata_in p f part ≡ as_it_lies (eqb (length part) 16) part = simp (ea, eb, ec) in
          let q = lies (eqb (length part) 16) part d (sym v ∙ h) in
          simp (ea, ec) (ap (λ (l : List ℕ). eqb (length l) 16) (sym q.1) ∙ q.0)
      go false ea false eb false ec true ee g eg =
          by_name 12 0 (eqb-true t 12 ee) refl (λ z. omega arith) (λ z. omega arith) (λ z. omega arith) (λ z. omega arith) h
      go false ea false eb false ec false ee true eg =
          by_name 33 6 (eqb-true t 33 eg) refl (λ z. omega arith) (λ z. omega arith) (λ z. omega arith) (λ z. omega arith) h
      go false ea false eb false ec false ee false eg =
          let w : is_five t ≡ false = simp (ea, ee, eb, ec, eg) in
          let z : true ≡ false = sym five ∙ w in
          let o : ◌≡◌ {A = ℕ} 0 1 = cc in clash o

  pub fits_read : rdata_at p f ≡ rdata d → fits_type t d ≡ true
  unfolding rdata_at
  fits_read h = go (leb (f.rdata + f.rdlength) (length p)) h
    where
      go : (b : Bool) → cond b (rdata_in p f part) unfit ≡ rdata d → fits_type t d ≡ true
      go true k = fits_in k
      go false k = let z : ◌≡◌ {A = ℕ} 0 1 = cc in clash z

pub read_whole : ReadWhole
read_whole p at r next h five = go (whole_read p at) refl
  where
    go : (a : Option RecordAt) → whole_read p at ≡ a → (is_name r.owner && fits_type r.rtype r.rdata) ≡ true
    go None e = let k : record_at p at ≡ broken = record_broken p at (whole_read p at) refl e in let z : ◌≡◌ {A = ℕ} 0 1 = cc in clash z
    go (Some f) e =
        let met : RecordMet p at f = record_found p at (whole_read p at) refl f e in
        let same : item (record_shown p f) f.next ≡ item r next = sym met.here ∙ h in
        let is : record_shown p f ≡ r = cc in
        let kind : is_five f.rtype ≡ true = ap (λ (x : Record). is_five x.rtype) is ∙ five in
        let named : is_name r.owner ≡ true =
        sym (ap (λ (x : Record). is_name x.owner) is) ∙ expanded-is_name p f.owner (record_shown p f).owner met.end met.owner in
        let fit : fits_type r.rtype r.rdata ≡ true =
        sym (ap (λ (x : Record). fits_type x.rtype x.rdata) is) ∙ fits_read p f (record_shown p f).rdata kind met.content in
        simp (named, fit)
