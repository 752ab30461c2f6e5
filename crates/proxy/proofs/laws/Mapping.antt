-- The theorems of specs/laws/Names.antt. Assumes nothing.
use mathlib.Core.Path.{◌≡◌, refl, sym, ap, ap₂, ◌∙◌}
use mathlib.Core.List.{List, [], ◌∷◌, ◌++◌}
use mathlib.Core.Bool.{Bool, true, false, cond, not, ◌&&◌, ◌||◌}
use Prim.Native.Nat.{ℕ, ◌+◌, ◌<◌, ◌≤◌}
use native.Mathlib.Omega.{arith}
use borrow.Author.Tests.{le-ltb, le-leb, ltb-false, ltb-true, not-true}
use mathlib.Mathlib.Data.Bool.Basic.{and-eq-true-eq-eq-true-and-eq-true as both}
use lib.ListN.{length, take, drop, length-append, take-append-drop}
use lib.Seq.{drop-drop, take_at, drop_at, length-take-le}
use lib.Dec.{ltb}
use Rattle.wire.specs.case_folding.Fold.{same_name}
use Rattle.wire.specs.names.Names.{labels_fill, is_name}
use Rattle.wire.proofs.case_folding.Equal.{same_refl, same_sym, same_trans, same_length}
use Rattle.proxy.specs.domains.Under.{starts_at, front_of, is_under, moved, is_overlong}
use Rattle.proxy.specs.domains.Domains.{Domains, are_domains, local}
use Rattle.proxy.specs.questions.Questions.{is_below, inward}
use Rattle.proxy.specs.records.Records.{outward}
use Rattle.proxy.specs.laws.Names.{AtMostOne, AtApex, OutAndBack, OthersStay, StillNames, TextKept}
use Rattle.proxy.proofs.domains.Tests.{under-short}
use Rattle.proxy.proofs.laws.Suffixes.{same_drop, same_behind, starts-behind, starts-same, fills_behind, fills_joined, starts-joined, under-parts, under-made, name-fills, name-short}

-- what the set-up's test says
pub record Good (d : Domains) : Type 0 where
  pub rich : is_name d.rich ≡ true
  pub ldh : is_name d.ldh ≡ true
  pub apart : same_name d.rich d.ldh ≡ false
  pub rich_over : is_under d.rich d.ldh ≡ false
  pub ldh_over : is_under d.ldh d.rich ≡ false

pub good : (d : Domains) → are_domains d ≡ true → Good d
unfolding are_domains
good d h =
    let a = is_name d.rich in
    let b = is_name d.ldh in
    let s = same_name d.rich d.ldh in
    let u = is_under d.rich d.ldh in
    let v = is_under d.ldh d.rich in
    let p = (both a (b && (not s && (not u && not v)))).0 h in
    let q = (both b (not s && (not u && not v))).0 p.1 in
    let r = (both (not s) (not u && not v)).0 q.1 in
    let t = (both (not u) (not v)).0 r.1 in
    record { rich = p.0; ldh = q.0; apart = not-true s r.0; rich_over = not-true u t.0; ldh_over = not-true v t.1 }

-- a name has a byte
name-some : (bs : List ℕ) → is_name bs ≡ true → 0 < length bs
unfolding labels_fill
name-some [] h = let z : ◌≡◌ {A = ℕ} 0 1 = cc in absurd (omega arith)
name-some (b ∷ bs) h = omega arith

-- two domains that one name lies under: one lies under the other, or they are equal
module _ (name : List ℕ) (ok : is_name name ≡ true) (d e : List ℕ) (okd : is_name d ≡ true) (hd : is_under d name ≡ true) (he : is_under e name ≡ true) where
  rest_same : same_name (drop (front_of d name) name) d ≡ true
  rest_same = (under-parts d name hd).2

  rest_fills : labels_fill 0 (drop (front_of d name) name) ≡ true
  rest_fills =
      let p = under-parts d name hd in
      let some : 0 < length d = name-some d okd in
      let less : front_of d name < length name = omega (arith, p.0) in
      fills_behind 0 (front_of d name) name (name-fills name ok) p.1 less

  pub as_long : length d ≡ length e → same_name d e ≡ true
  as_long l =
      let front : front_of e name ≡ front_of d name = omega arith in
      let h : same_name (drop (front_of d name) name) e ≡ true = ap (λ (n : ℕ). same_name (drop n name) e) (sym front) ∙ (under-parts e name he).2 in
      same_trans d (drop (front_of d name) name) e (same_sym (drop (front_of d name) name) d rest_same) h

  pub longer : length e < length d → is_under e d ≡ true
  longer l =
      let p = under-parts d name hd in
      let q = under-parts e name he in
      let sum : front_of d name + front_of e d ≡ front_of e name = omega (arith, p.0, q.0) in
      let within : front_of d name ≤ length name = omega arith in
      let start : starts_at 0 (front_of e d) d ≡ true =
      sym (starts-same 0 (front_of e d) (drop (front_of d name) name) d rest_fills rest_same)
      ∙ sym (starts-behind 0 (front_of d name) (front_of e d) name p.1 within)
      ∙ ap (λ (n : ℕ). starts_at 0 n name) sum ∙ q.1 in
      let same : same_name (drop (front_of e d) (drop (front_of d name) name)) e ≡ true =
      ap (λ (x : List ℕ). same_name x e) (drop-drop (front_of e d) (front_of d name) name ∙ ap (λ (n : ℕ). drop n name) sum) ∙ q.2 in
      let back : same_name (drop (front_of e d) d) (drop (front_of e d) (drop (front_of d name) name)) ≡ true =
      same_drop (front_of e d) d (drop (front_of d name) name) (same_sym (drop (front_of d name) name) d rest_same) in
      under-made e d l start (same_trans (drop (front_of e d) d) (drop (front_of e d) (drop (front_of d name) name)) e back same)

differ : (b : Bool) → b ≡ true → b ≡ false → ⊥
differ b t f = let g : true ≡ false = sym t ∙ f in let z : ◌≡◌ {A = ℕ} 0 1 = cc in omega arith

-- so the two domains of a set-up do not have one name under both
not-both : (d : Domains) → Good d → (name : List ℕ) → is_name name ≡ true → is_under d.rich name ≡ true → is_under d.ldh name ≡ true → ⊥
not-both d g name ok hr hl = go (ltb (length d.ldh) (length d.rich)) refl (ltb (length d.rich) (length d.ldh)) refl
  where
    go : (a : Bool) → ltb (length d.ldh) (length d.rich) ≡ a → (b : Bool) → ltb (length d.rich) (length d.ldh) ≡ b → ⊥
    go true e b f =
        differ (is_under d.ldh d.rich) (longer name ok d.rich d.ldh g.rich hr hl (ltb-true (length d.ldh) (length d.rich) e))
        g.ldh_over
    go false e true f =
        differ (is_under d.rich d.ldh) (longer name ok d.ldh d.rich g.ldh hl hr (ltb-true (length d.rich) (length d.ldh) f))
        g.rich_over
    go false e false f =
        let l : length d.rich ≡ length d.ldh = omega
        (arith, ltb-false (length d.ldh) (length d.rich) e, ltb-false (length d.rich) (length d.ldh) f) in
        differ (same_name d.rich d.ldh) (as_long name ok d.rich d.ldh g.rich hr hl l) g.apart

pub at_most_one : AtMostOne
at_most_one d h name ok hr = go (is_under d.ldh name) refl
  where
    go : (b : Bool) → is_under d.ldh name ≡ b → is_under d.ldh name ≡ false
    go false e = e
    go true e = absurd (not-both d (good d h) name ok hr e)

pub at-apex : AtApex
unfolding is_below
at-apex d h =
    let g = good d h in (
      simp (sym (under-short d.rich d.rich (omega arith)), g.ldh_over),
      simp (g.rich_over, sym (under-short d.ldh d.ldh (omega arith))),
    )

-- a name under a domain, moved to another
module _ (from to name : List ℕ) (h : is_under from name ≡ true) where
  pub moved-is : moved from to name ≡ take (front_of from name) name ++ to
  unfolding moved
  moved-is = simp h

  front_long : length (take (front_of from name) name) ≡ front_of from name
  front_long = length-take-le (front_of from name) name (omega arith)

  pub moved_front : take (front_of from name) (moved from to name) ≡ take (front_of from name) name
  moved_front = ap (take (front_of from name)) moved-is ∙ take_at (take (front_of from name) name) to (front_of from name) front_long

  pub moved-rest : drop (front_of from name) (moved from to name) ≡ to
  moved-rest = ap (drop (front_of from name)) moved-is ∙ drop_at (take (front_of from name) name) to (front_of from name) front_long

  moved-long : length (moved from to name) ≡ front_of from name + length to
  moved-long = omega (arith, ap length moved-is, length-append (take (front_of from name) name) to, front_long)

  front_again : front_of to (moved from to name) ≡ front_of from name
  front_again = omega (arith, moved-long)

  -- it lies under the other
  pub moved-under : is_under to (moved from to name) ≡ true
  moved-under =
      let p = under-parts from name h in
      let l : length to < length (moved from to name) = omega (arith, moved-long, p.0) in
      let within : front_of from name ≤ length name = omega arith in
      let s : starts_at 0 (front_of to (moved from to name)) (moved from to name) ≡ true =
      ap₂ (λ (n : ℕ) (x : List ℕ). starts_at 0 n x) front_again moved-is ∙ starts-joined 0 (front_of from name) name to p.1 within in
      let e : same_name (drop (front_of to (moved from to name)) (moved from to name)) to ≡ true =
      ap (λ (x : List ℕ). same_name x to) (ap (λ (n : ℕ). drop n (moved from to name)) front_again ∙ moved-rest) ∙ same_refl to in
      under-made to (moved from to name) l s e

  -- and moved back equals what it was
  pub moved_back : moved to from (moved from to name) ≡ take (front_of from name) name ++ from
  unfolding moved
  moved_back = simp moved-under (ap (λ (x : List ℕ). x ++ from) (ap (λ (n : ℕ). take n (moved from to name)) front_again ∙ moved_front))

  pub back_same : same_name (moved to from (moved from to name)) name ≡ true
  back_same =
      ap (λ (x : List ℕ). same_name x name) moved_back
      ∙ ap (same_name (take (front_of from name) name ++ from)) (sym (take-append-drop (front_of from name) name))
      ∙ same_behind (take (front_of from name) name) from (drop (front_of from name) name)
      (same_sym (drop (front_of from name) name) from (under-parts from name h).2)

pub text_kept : TextKept
text_kept from to name h = (moved_front from to name h, moved-rest from to name h)

-- a name that does not lie under a domain stays
pub moved-stays : (from to name : List ℕ) → is_under from name ≡ false → moved from to name ≡ name
unfolding moved
moved-stays from to name h = simp h

-- a moved name that fits is well formed
fits-name : (bs : List ℕ) → labels_fill 0 bs ≡ true → is_overlong bs ≡ false → is_name bs ≡ true
fits-name bs f short = simp (f, le-leb (length bs) 255 (ltb-false 255 (length bs) short))

pub moved-name : (from to name : List ℕ) → is_name from ≡ true → is_name name ≡ true → is_name to ≡ true → is_overlong (moved from to name) ≡ false
    → is_name (moved from to name) ≡ true
moved-name from to name okf ok okt short = go (is_under from name) refl
  where
    go : (b : Bool) → is_under from name ≡ b → is_name (moved from to name) ≡ true
    go false e = ap is_name (moved-stays from to name e) ∙ ok
    go true e =
        let p = under-parts from name e in
        let less : front_of from name < length name = omega (arith, p.0, name-some from okf) in
        fits-name (moved from to name)
        (ap (labels_fill 0) (moved-is from to name e) ∙ fills_joined 0 (front_of from name) name to (name-fills name ok) p.1 less (name-fills to okt)) short

local-name : is_name local ≡ true
unfolding labels_fill
local-name = refl

-- the domain that a name under "local" goes to
abbrev domain_for : Domains → Bool → List ℕ
domain_for d host = cond host d.ldh d.rich

outward-is : (d : Domains) (host : Bool) (name : List ℕ) → outward d host name ≡ moved local (domain_for d host) name
unfolding outward
outward-is d true name = refl
outward-is d false name = refl

domain-name : (d : Domains) → Good d → (host : Bool) → is_name (domain_for d host) ≡ true
domain-name d g true = g.ldh
domain-name d g false = g.rich

-- back from it
inward-is : (d : Domains) → Good d → (host : Bool) (name : List ℕ) → is_name name ≡ true → is_under (domain_for d host) name ≡ true
    → inward d name ≡ moved (domain_for d host) local name
unfolding inward
inward-is d g false name ok h = simp h
inward-is d g true name ok h = go (is_under d.rich name) refl
  where
    go : (b : Bool) → is_under d.rich name ≡ b → cond (is_under d.rich name) (moved d.rich local name) (moved d.ldh local name) ≡ moved d.ldh
        local name
    go false e = simp e
    go true e = absurd (not-both d g name ok e h)

-- a name back in "local", or one that stays
inward-name : (d : Domains) → Good d → (name : List ℕ) → is_name name ≡ true → is_overlong (inward d name) ≡ false → is_name (inward d name) ≡ true
unfolding inward
inward-name d g name ok short = go (is_under d.rich name) refl
  where
    go : (b : Bool) → is_under d.rich name ≡ b
        → is_name (cond (is_under d.rich name) (moved d.rich local name) (moved d.ldh local name)) ≡ true
    go true e =
        let w : inward d name ≡ moved d.rich local name = simp e in
        ap is_name w ∙ moved-name d.rich local name g.rich ok local-name (sym (ap is_overlong w) ∙ short)
    go false e =
        let w : inward d name ≡ moved d.ldh local name = simp e in
        ap is_name w ∙ moved-name d.ldh local name g.ldh ok local-name (sym (ap is_overlong w) ∙ short)

inward-stays : (d : Domains) (name : List ℕ) → is_below d name ≡ false → inward d name ≡ name
unfolding inward is_below
inward-stays d name h = go (is_under d.rich name) refl (is_under d.ldh name) refl h
  where
    go : (a : Bool) → is_under d.rich name ≡ a → (b : Bool) → is_under d.ldh name ≡ b → (is_under d.rich name || is_under d.ldh name) ≡ false
        → cond (is_under d.rich name) (moved d.rich local name) (moved d.ldh local name) ≡ name
    go true e b f k = absurd (differ (is_under d.rich name || is_under d.ldh name) (simp e) k)
    go false e true f k = absurd (differ (is_under d.rich name || is_under d.ldh name) (simp (e, f)) k)
    go false e false f k = simp e (moved-stays d.ldh local name f)

pub still_names : StillNames
still_names = record { out = out; back = back }
  where
    out : (d : Domains) → are_domains d ≡ true → (host : Bool) (name : List ℕ) → is_name name ≡ true → is_overlong (outward d host name) ≡ false → is_name
        (outward d host name) ≡ true
    out d h host name ok short =
        ap is_name (outward-is d host name)
        ∙ moved-name local (domain_for d host) name local-name ok (domain-name d (good d h) host) (sym (ap is_overlong (outward-is d host name)) ∙ short)

    back : (d : Domains) → are_domains d ≡ true → (name : List ℕ) → is_name name ≡ true → is_overlong (inward d name) ≡ false → is_name (inward d name) ≡ true
    back d h name ok short = inward-name d (good d h) name ok short

pub out_and_back : OutAndBack
out_and_back d h host name ok under short =
    let g = good d h in
    let to = domain_for d host in
    let out : outward d host name ≡ moved local to name = outward-is d host name in
    let fits : is_overlong (moved local to name) ≡ false = sym (ap is_overlong out) ∙ short in
    let named : is_name (moved local to name) ≡ true = moved-name local to name local-name ok (domain-name d g host) fits in
    let back : inward d (outward d host name) ≡ moved to local (moved local to name) =
    ap (inward d) out ∙ inward-is d g host (moved local to name) named (moved-under local to name under) in
    let same : same_name (inward d (outward d host name)) name ≡ true = ap (λ (x : List ℕ). same_name x name) back ∙ back_same local to name under in
    let long : length (inward d (outward d host name)) ≤ 255 = omega (arith, same_length (inward d (outward d host name)) name same, name-short name ok) in
    (same, le-ltb 255 (length (inward d (outward d host name))) long)

pub others_stay : OthersStay
others_stay = record { out = out; back = back }
  where
    out : (d : Domains) (host : Bool) (name : List ℕ) → is_under local name ≡ false → outward d host name ≡ name
    out d host name h = outward-is d host name ∙ moved-stays local (domain_for d host) name h

    back : (d : Domains) (name : List ℕ) → is_below d name ≡ false → inward d name ≡ name
    back d name h = inward-stays d name h
