-- The readers of a part: what each test makes of the answer, and what an answer says of the part. Assumes nothing.
use Rattle.std.specs.Option.{is_some}
use Rattle.std.specs.Prelude.{None, Option, Some}
use mathlib.Core.Path.{◌≡◌, refl, sym, ap, ◌∙◌}
use mathlib.Core.List.{List, [], ◌++◌}
use mathlib.Core.Bool.{Bool, true, false, cond}
use Prim.Native.Nat.{ℕ, ◌+◌, ◌-◌, ◌<◌, ◌≤◌}
use native.Mathlib.Omega.{arith}
use borrow.Author.Tests.{le-leb, lt-leb, lt-ltb, le-ltb, eq-eqb, ne_eqb, ltb-true, ltb-false, leb-true, leb-false, eqb-true, eqb-false}
use lib.ListN.{length, get_or, take, drop}
use lib.Dec.{eqb, ltb, leb}
use Rattle.wire.specs.octets.Octets.{word16}
use Rattle.wire.specs.names.Names.{Reading, name, malformed, name_at}
use Rattle.wire.specs.names.Answers.{span_of, found_of}
use Rattle.wire.specs.declared.names.Span.{Span}
use Rattle.wire.proofs.names.Use.{as_name, as_malformed}
use Rattle.wire.specs.rdata.Rdata.{rdata, unfit, ending_name, with_name}
use Rattle.wire.specs.rdata.Answers.{fits}
use Rattle.wire.specs.rdata.Readers.{address_bytes, address_in, string_at, name_ending, name_in, srv_with, srv_in}
use Rattle.wire.specs.declared.rdata.StringAt.{StringAt}
use Rattle.wire.specs.declared.rdata.StringRead.TheVariants as str
use Rattle.wire.specs.declared.rdata.SrvAt.{SrvAt}

-- an address: the part, or no byte
pub bytes_of-a : (rtype : ℕ) → rtype ≡ 1 → 4 ≡ address_bytes rtype
bytes_of-a rtype e = rw e

pub bytes_of-aaaa : (rtype : ℕ) → rtype ≡ 28 → 16 ≡ address_bytes rtype
bytes_of-aaaa rtype e = rw e

pub bytes_of-none : (rtype : ℕ) → (rtype ≡ 1 → ⊥) → (rtype ≡ 28 → ⊥) → 0 ≡ address_bytes rtype
bytes_of-none rtype a b = simp (ne_eqb _ _ a, ne_eqb _ _ b)

module _ (rtype n : ℕ) (is : n ≡ address_bytes rtype) (d : List ℕ) where
  pub address_is : length d ≡ n → d ≡ address_in rtype d
  address_is e = sym (ap (λ (b : Bool). cond b d []) (eq-eqb (length d) (address_bytes rtype) (e ∙ is)))

  pub address-not : (length d ≡ n → ⊥) → [] ≡ address_in rtype d
  address-not e = sym (ap (λ (b : Bool). cond b d []) (ne_eqb (length d) (address_bytes rtype) (λ z. e (z ∙ sym is))))

  -- the part is as long as an address exactly if the address is
  pub address-long : (n ≡ 0 → ⊥) → (r : List ℕ) → r ≡ address_in rtype d → eqb (length r) n ≡ eqb (length d) n
  address-long some r h = ap (λ (l : List ℕ). eqb (length l) n) h ∙ go (eqb (length d) (address_bytes rtype)) refl
    where
      go : (b : Bool) → eqb (length d) (address_bytes rtype) ≡ b → eqb (length (cond b d [])) n ≡ eqb (length d) n
      go true e = refl
      go false e =
          let ne : length d ≡ n → ⊥ = λ z. eqb-false (length d) (address_bytes rtype) e (z ∙ is) in
          let none : 0 ≡ n → ⊥ = λ z. some (sym z) in
          ne_eqb 0 n none ∙ sym (ne_eqb (length d) n ne)

-- no address is longer than 16 bytes
pub address-short : (rtype : ℕ) (d : List ℕ) → length (address_in rtype d) ≤ 16
address-short rtype d = go (eqb (length d) (address_bytes rtype)) refl
  where
    most : (a b : Bool) → cond a 4 (cond b 16 0) ≤ 16
    most true b = omega arith
    most false true = omega arith
    most false false = omega arith

    go : (b : Bool) → eqb (length d) (address_bytes rtype) ≡ b → length (cond b d []) ≤ 16
    go true e = omega (arith, eqb-true (length d) (address_bytes rtype) e, most (eqb rtype 1) (eqb rtype 28))
    go false e = omega arith

-- a string: what the tests make of it
module _ (d : List ℕ) (at : ℕ) where
  pub no_string : length d ≤ at → str.End ≡ string_at d at
  unfolding string_at
  no_string h = simp (le-ltb _ _ h)

  pub string_cut : at < length d → length d < at + 1 + get_or d at 0 → str.Malformed ≡ string_at d at
  unfolding string_at
  string_cut h l = simp (lt-ltb _ _ h, lt-leb _ _ l)

  pub string_there : at < length d → at + 1 + get_or d at 0 ≤ length d
      → str.Found (record { text = at + 1; len = get_or d at 0; next = at + 1 + get_or d at 0 }) ≡ string_at d at
  unfolding string_at
  string_there h l = simp (lt-ltb _ _ h, le-leb _ _ l)

  -- and what it says of them
  pub ends_there : string_at d at ≡ str.End → length d ≤ at
  unfolding string_at
  ends_there = go (ltb at (length d)) (leb (at + 1 + get_or d at 0) (length d)) refl
    where
      go : (a b : Bool) → ltb at (length d) ≡ a
          → cond a (cond b (str.Found (record { text = at + 1; len = get_or d at 0; next = at + 1 + get_or d at 0 })) str.Malformed) str.End ≡ str.End → length d ≤ at
      go true true e h = let z : ◌≡◌ {A = ℕ} 0 1 = cc in absurd (omega arith)
      go true false e h = let z : ◌≡◌ {A = ℕ} 0 1 = cc in absurd (omega arith)
      go false b e h = ltb-false at (length d) e

  pub cut-there : string_at d at ≡ str.Malformed → (at < length d) × (length d < at + 1 + get_or d at 0)
  unfolding string_at
  cut-there = go (ltb at (length d)) (leb (at + 1 + get_or d at 0) (length d)) refl refl
    where
      go : (a b : Bool) → ltb at (length d) ≡ a → leb (at + 1 + get_or d at 0) (length d) ≡ b
          → cond a (cond b (str.Found (record { text = at + 1; len = get_or d at 0; next = at + 1 + get_or d at 0 })) str.Malformed) str.End ≡ str.Malformed
          → (at < length d) × (length d < at + 1 + get_or d at 0)
      go true true e f h = let z : ◌≡◌ {A = ℕ} 0 1 = cc in absurd (omega arith)
      go true false e f h = (ltb-true at (length d) e, leb-false (at + 1 + get_or d at 0) (length d) f)
      go false b e f h = let z : ◌≡◌ {A = ℕ} 0 1 = cc in absurd (omega arith)

  pub found_there : (s : StringAt) → string_at d at ≡ str.Found s → (at < length d) × (at + 1 + get_or d at 0 ≤ length d) × (s.next ≡ at + 1 + get_or d at 0)
  unfolding string_at
  found_there s = go (ltb at (length d)) (leb (at + 1 + get_or d at 0) (length d)) refl refl
    where
      go : (a b : Bool) → ltb at (length d) ≡ a → leb (at + 1 + get_or d at 0) (length d) ≡ b
          → cond a (cond b (str.Found (record { text = at + 1; len = get_or d at 0; next = at + 1 + get_or d at 0 })) str.Malformed) str.End ≡ str.Found s
          → (at < length d) × (at + 1 + get_or d at 0 ≤ length d) × (s.next ≡ at + 1 + get_or d at 0)
      go true true e f h =
          let k : record { text = at + 1; len = get_or d at 0; next = at + 1 + get_or d at 0 } ≡ s = cc in
          (ltb-true at (length d) e, leb-true (at + 1 + get_or d at 0) (length d) f, sym (ap (λ (y : StringAt). y.next) k))
      go true false e f h = let z : ◌≡◌ {A = ℕ} 0 1 = cc in absurd (omega arith)
      go false b e f h = let z : ◌≡◌ {A = ℕ} 0 1 = cc in absurd (omega arith)

-- whether a name is found

-- a name in a part
module _ (p : List ℕ) (at : ℕ) (d : List ℕ) (before behind : ℕ) where
  -- where it has to end
  abbrev stop : ℕ
  stop = at + (length d - behind)

  pub name-outside : length p < at + length d → None ≡ name_in p at d before behind
  unfolding name_in
  name-outside h = simp (lt-leb _ _ h)

  module _ (inside : at + length d ≤ length p) where
    pub name-short : length d < before + behind → None ≡ name_in p at d before behind
    unfolding name_in
    name-short h = simp (le-leb _ _ inside, lt-leb _ _ h)

    module _ (room : before + behind ≤ length d) where
      read_there : name_in p at d before behind ≡ name_ending stop (name_at p (at + before))
      unfolding name_in
      read_there = simp (le-leb _ _ inside, le-leb _ _ room)

      module _ (r : (Option Span)) (is : r ≡ found_of (name_at p (at + before))) where
        pub name-bad : r ≡ None → None ≡ name_in p at d before behind
        name-bad k = sym (read_there ∙ ap (name_ending stop) (as_malformed (name_at p (at + before)) r is k))

        module _ (s : Span) (k : r ≡ Some s) where
          found : name_in p at d before behind ≡ cond (eqb s.end stop) (Some s) None
          found =
              let f = as_name (name_at p (at + before)) r s is k in
              read_there ∙ ap (name_ending stop) f.1
              ∙ ap (λ (x : Span). cond (eqb s.end stop) (Some x) None) (sym f.3)

          pub name-ends : s.end ≡ stop → Some s ≡ name_in p at d before behind
          name-ends e = sym (found ∙ ap (λ (b : Bool). cond b (Some s) None) (eq-eqb _ _ e))

          pub name-elsewhere : (s.end ≡ stop → ⊥) → None ≡ name_in p at d before behind
          name-elsewhere e = sym (found ∙ ap (λ (b : Bool). cond b (Some s) None) (ne_eqb _ _ e))

  -- a name that is found starts in the packet
  pub name-starts : (s : Span) → name_in p at d before behind ≡ Some s → at + before ≤ length p
  unfolding name_in
  name-starts s = go (leb (at + length d) (length p)) (leb (before + behind) (length d)) refl refl
    where
      go : (a b : Bool) → leb (at + length d) (length p) ≡ a → leb (before + behind) (length d) ≡ b
          → cond a (cond b (name_ending stop (name_at p (at + before))) None) None ≡ Some s → at + before ≤ length p
      go true true e f h = omega (arith, leb-true (at + length d) (length p) e, leb-true (before + behind) (length d) f)
      go true false e f h = let z : ◌≡◌ {A = ℕ} 0 1 = cc in absurd (omega arith)
      go false b e f h = let z : ◌≡◌ {A = ℕ} 0 1 = cc in absurd (omega arith)

  -- rdata with a name fits exactly where the name is found
  name-fits : at + length d ≤ length p → is_some (name_in p at d before behind) ≡ fits (with_name p at d before behind)
  unfolding name_in
  name-fits inside =
      ap (λ (b : Bool). is_some (cond b (cond (leb (before + behind) (length d)) (name_ending stop (name_at p (at + before))) None) None))
      (le-leb _ _ inside)
      ∙ go (leb (before + behind) (length d)) (name_at p (at + before))
    where
      back : List ℕ
      back = drop (length d - behind) d

      end : (bs : List ℕ) (e : ℕ) (b : Bool) → is_some (cond b (Some (span_of bs e)) None) ≡ fits (cond b (rdata (take before d ++ (bs ++ back))) unfit)
      end bs e true = refl
      end bs e false = refl

      go : (b : Bool) (x : Reading)
          → is_some (cond b (name_ending stop x) None) ≡ fits (cond b (ending_name (take before d) (drop (length d - behind) d) stop x) unfit)
      go true (name bs e) = end bs e (eqb e stop)
      go true malformed = refl
      go false x = refl

  module _ (inside : at + length d ≤ length p) (r : (Option Span)) (is : r ≡ name_in p at d before behind) where
    pub fits_name : is_some r ≡ fits (with_name p at d before behind)
    fits_name = ap is_some is ∙ name-fits inside

-- an SRV: its numbers, and its target as a name in the part
module _ (p : List ℕ) (at : ℕ) (d : List ℕ) where
  module _ (r : (Option Span)) (is : r ≡ name_in p at d 6 0) where
    pub srv_there : (s : Span) → r ≡ Some s → (priority weight port : ℕ) → priority ≡ word16 d 0 → weight ≡ word16 d 2 → port ≡ word16 d 4
        → Some (record { priority = priority; weight = weight; port = port; target = at + 6; span = s }) ≡ srv_in p at d
    unfolding srv_in
    srv_there s k priority weight port a b c =
        (λ i. Some (record { priority = a i; weight = b i; port = c i; target = at + 6; span = s })) ∙ ap (srv_with d (at + 6)) (sym k ∙ is)

    pub srv_bad : r ≡ None → None ≡ srv_in p at d
    unfolding srv_in
    srv_bad k = ap (srv_with d (at + 6)) (sym k ∙ is)

  -- one is there exactly where its target is
  pub srv_named : (r : Option SrvAt) → r ≡ srv_in p at d → is_some r ≡ is_some (name_in p at d 6 0)
  unfolding srv_in
  srv_named r is = ap is_some is ∙ go (name_in p at d 6 0)
    where
      go : (x : Option Span) → is_some (srv_with d (at + 6) x) ≡ is_some x
      go (Some s) = refl
      go None = refl
