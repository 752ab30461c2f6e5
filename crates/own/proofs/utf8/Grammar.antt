-- What a screen can show is the UTF-8 of RFC 3629's grammar without control bytes. Assumes nothing.
use mathlib.Core.Path.{◌≡◌, refl, sym, ap, ◌∙◌}
use mathlib.Core.Logic.{◌⊎◌, inl, inr}
use mathlib.Core.List.{List, [], ◌∷◌, ◌++◌}
use mathlib.Core.Bool.{Bool, true, false, ◌||◌}
use mathlib.Mathlib.Data.Bool.Basic.{and-eq-true-eq-eq-true-and-eq-true as both}
use Prim.Native.Nat.{ℕ, zero, suc, ◌-◌, ◌<◌, ◌≤◌}
use native.Mathlib.Omega.{arith}
use borrow.Author.Tests.{ltb-true, ltb-false, eqb-true, eqb-false}
use lib.Dec.{ltb, eqb}
use Rattle.own.specs.declared.utf8.Next.{Next}
use Rattle.own.specs.utf8.Utf8.{owing, within, starts, following, may_stand, behind, shown_from, is_shown}
use Rattle.own.specs.utf8.Grammar.{Range, Character, one, two, three_E0, three_E1, three_ED, three_EE, four_F0, four_F1, four_F4, Octets, none, next, NoControl, nothing, byte, ShownExactly}
use Rattle.own.proofs.utf8.Bytes.{between, within-true, starts-plain, starts-led, follows-1, follows-2, follows-3, follows-4, follows-E0, follows-ED, follows-F0, follows-F4, stands_first, stands_owed, behind-first, behind-owed}

abbrev Both : List ℕ → Type 0
Both s = Octets s × NoControl s

-- the rest of a character that owes so many bytes, and whole characters behind it
data Rest : ℕ → ℕ → ℕ → List ℕ → Type 0 where
  whole : {low high : ℕ} {s : List ℕ} → Octets s → NoControl s → Rest 0 low high s
  more : {owed low high b : ℕ} {s : List ℕ} → Range low high b → Rest owed 0x80 0xBF s → Rest (suc owed) low high (b ∷ s)

-- a byte that is none of ASCII is no control byte
past : (b : ℕ) {s : List ℕ} → 0x80 ≤ b → NoControl s → NoControl (b ∷ s)
past b h n = byte {b = b} (omega arith) (λ e. omega arith) n

-- a first byte and the rest of its character
first-1 : (a : ℕ) {s : List ℕ} → Range 0x20 0x7E a → Rest 0 0x80 0xBF s → Both (a ∷ s)
first-1 a r (whole o n) =
    let h : 0x20 ≤ a = r.0 in
    let k : a ≤ 0x7E = r.1 in (next (one {a = a} (omega arith, omega arith)) o, byte {b = a} (omega arith) (λ e. omega arith) n)

first-2 : (a : ℕ) {s : List ℕ} → Range 0xC2 0xDF a → Rest 1 0x80 0xBF s → Both (a ∷ s)
first-2 a r (more {b = b} t (whole o n)) = (next (two r t) o, past a (omega (arith, r.0)) (past b t.0 n))

first-E0 : {s : List ℕ} → Rest 2 0xA0 0xBF s → Both (0xE0 ∷ s)
first-E0 (more {b = b} t (more {b = c} u (whole o n))) = (next (three_E0 t u) o, past 0xE0 (omega arith) (past b (omega (arith, t.0)) (past c u.0 n)))

first-ED : {s : List ℕ} → Rest 2 0x80 0x9F s → Both (0xED ∷ s)
first-ED (more {b = b} t (more {b = c} u (whole o n))) = (next (three_ED t u) o, past 0xED (omega arith) (past b t.0 (past c u.0 n)))

first-3 : (a : ℕ) {s : List ℕ} → 0xE0 < a → (a ≡ 0xED → ⊥) → a < 0xF0 → Rest 2 0x80 0xBF s → Both (a ∷ s)
first-3 a h m k (more {b = b} t (more {b = c} {s = s} u (whole o n))) = (form (ltb a 0xED) refl, past a (omega arith) (past b t.0 (past c u.0 n)))
  where
    form : (v : Bool) → ltb a 0xED ≡ v → Octets (a ∷ b ∷ c ∷ s)
    form true e = let l : a < 0xED = ltb-true _ _ e in next (three_E1 {a = a} (omega arith, omega arith) t u) o
    form false e = let l : 0xED ≤ a = ltb-false _ _ e in next (three_EE {a = a} (omega arith, omega arith) t u) o

first-F0 : {s : List ℕ} → Rest 3 0x90 0xBF s → Both (0xF0 ∷ s)
first-F0 (more {b = b} t (more {b = c} u (more {b = d} v (whole o n)))) =
    (next (four_F0 t u v) o, past 0xF0 (omega arith) (past b (omega (arith, t.0)) (past c u.0 (past d v.0 n))))

first-F4 : {s : List ℕ} → Rest 3 0x80 0x8F s → Both (0xF4 ∷ s)
first-F4 (more {b = b} t (more {b = c} u (more {b = d} v (whole o n)))) =
    (next (four_F4 t u v) o, past 0xF4 (omega arith) (past b t.0 (past c u.0 (past d v.0 n))))

first-4 : (a : ℕ) {s : List ℕ} → Range 0xF1 0xF3 a → Rest 3 0x80 0xBF s → Both (a ∷ s)
first-4 a r (more {b = b} t (more {b = c} u (more {b = d} v (whole o n)))) =
    (next (four_F1 r t u v) o, past a (omega (arith, r.0)) (past b t.0 (past c u.0 (past d v.0 n))))

-- what is owed after a first byte, by its range
module _ (a : ℕ) (s : List ℕ) (start : starts a ≡ true) where
  abbrev After : Next → Type 0
  After n = Rest n.owed n.low n.high s

  plain-or_lead : Range 0x20 0x7E a ⊎ Range 0xC2 0xF4 a
  unfolding starts
  plain-or_lead = go (within 0x20 0x7E a) refl start
    where
      go : (v : Bool) → within 0x20 0x7E a ≡ v → (v || within 0xC2 0xF4 a) ≡ true → Range 0x20 0x7E a ⊎ Range 0xC2 0xF4 a
      go true e h = inl (within-true 0x20 0x7E a e)
      go false e h = inr (within-true 0xC2 0xF4 a h)

  -- the first byte's range, and what the table says of it
  joined : After (following a) → Both (a ∷ s)
  joined r = go plain-or_lead
    where
      by : {n : Next} → following a ≡ n → After n
      by e = rw e at r

      -- from F0 on
      four : Range 0xC2 0xF4 a → 0xF0 ≤ a → (v w : Bool) → eqb a 0xF0 ≡ v → eqb a 0xF4 ≡ w → Both (a ∷ s)
      four q h true w e f = let k : a ≡ 0xF0 = eqb-true _ _ e in rw k (first-F0 (by (follows-F0 a k)))
      four q h false true e f = let k : a ≡ 0xF4 = eqb-true _ _ f in rw k (first-F4 (by (follows-F4 a k)))
      four q h false false e f =
          let m : a ≡ 0xF0 → ⊥ = eqb-false _ _ e in
          let n : a ≡ 0xF4 → ⊥ = eqb-false _ _ f in first-4 a (omega arith, omega (arith, q.1)) (by (follows-4 a h m n))

      -- from E0 to EF
      three : 0xE0 ≤ a → a < 0xF0 → (v w : Bool) → eqb a 0xE0 ≡ v → eqb a 0xED ≡ w → Both (a ∷ s)
      three h l true w e f = let k : a ≡ 0xE0 = eqb-true _ _ e in rw k (first-E0 (by (follows-E0 a k)))
      three h l false true e f = let k : a ≡ 0xED = eqb-true _ _ f in rw k (first-ED (by (follows-ED a k)))
      three h l false false e f =
          let m : a ≡ 0xE0 → ⊥ = eqb-false _ _ e in
          let n : a ≡ 0xED → ⊥ = eqb-false _ _ f in first-3 a (omega arith) n l (by (follows-3 a h m n l))

      lead : Range 0xC2 0xF4 a → (v w : Bool) → ltb a 0xE0 ≡ v → ltb a 0xF0 ≡ w → Both (a ∷ s)
      lead q true w e f = let k : a < 0xE0 = ltb-true _ _ e in first-2 a (q.0, omega arith) (by (follows-2 a (omega (arith, q.0)) k))
      lead q false true e f = three (ltb-false _ _ e) (ltb-true _ _ f) (eqb a 0xE0) (eqb a 0xED) refl refl
      lead q false false e f = four q (ltb-false _ _ f) (eqb a 0xF0) (eqb a 0xF4) refl refl

      go : Range 0x20 0x7E a ⊎ Range 0xC2 0xF4 a → Both (a ∷ s)
      go (inl q) = let k : a < 0x80 = omega (arith, q.1) in first-1 a q (by (follows-1 a k))
      go (inr q) = lead q (ltb a 0xE0) (ltb a 0xF0) refl refl

-- a byte that is owed
module _ (b owed low high : ℕ) where
  owed_stands : may_stand (owing (suc owed) low high) b ≡ within low high b
  owed_stands = stands_owed _ b (λ e. omega arith)

  owed_behind : behind (owing (suc owed) low high) b ≡ owing owed 0x80 0xBF
  owed_behind = let d : suc owed - 1 ≡ owed = omega arith in behind-owed (owing (suc owed) low high) b (λ e. omega arith) ∙ ap (λ (k : ℕ). owing k 0x80 0xBF) d

-- what may stand is RFC 3629's
read : (s : List ℕ) (owed low high : ℕ) → shown_from (owing owed low high) s ≡ true → Rest owed low high s
unfolding shown_from
read [] zero low high h = whole none nothing
read [] (suc k) low high h = let z : suc k ≡ 0 = eqb-true _ _ h in absurd (omega arith)
read (b ∷ bs) zero low high h =
    let f = (both (may_stand (owing 0 low high) b) (shown_from (behind (owing 0 low high) b) bs)).0 h in
    let g : shown_from (following b) bs ≡ true = rw (behind-first (owing 0 low high) b refl) at f.1 in
    let t = joined b bs (sym (stands_first (owing 0 low high) b refl) ∙ f.0) (read bs (following b).owed (following b).low (following b).high g) in
    whole t.0 t.1
read (b ∷ bs) (suc k) low high h =
    let f = (both (may_stand (owing (suc k) low high) b) (shown_from (behind (owing (suc k) low high) b) bs)).0 h in
    more (within-true low high b (sym (owed_stands b k low high) ∙ f.0)) (read bs k 0x80 0xBF (rw (owed_behind b k low high) at f.1))

-- and what is RFC 3629's may stand
record Stands (n : Next) (s : List ℕ) : Type 0 where
  holds : shown_from n s ≡ true

abbrev start : Next
start = owing 0 0x80 0xBF

end : Stands start []
unfolding shown_from
end = record { holds = refl }

first : {n : Next} {b : ℕ} {s : List ℕ} → starts b ≡ true → following b ≡ n → Stands n s → Stands start (b ∷ s)
unfolding shown_from may_stand behind
first t e h = record { holds = simp (t, e) h.holds }

owed : {k low high b : ℕ} {s : List ℕ} → Range low high b → Stands (owing k 0x80 0xBF) s → Stands (owing (suc k) low high) (b ∷ s)
unfolding shown_from
owed {k} {low} {high} {b} r h = record { holds = simp (owed_stands b k low high, owed_behind b k low high, between low high b r.0 r.1) h.holds }

plain-first : (a : ℕ) → 0x20 ≤ a → a ≤ 0x7E → starts a ≡ true
plain-first a h k = sym (starts-plain a _ refl (between 0x20 0x7E a h k))

three : (a : ℕ) → 0xE0 < a → (a ≡ 0xED → ⊥) → a < 0xF0 → following a ≡ owing 2 0x80 0xBF
three a h n k = follows-3 a (omega arith) (λ e. omega arith) n k

-- a character before what may stand
char : {c s : List ℕ} → Character c → NoControl (c ++ s) → Stands start s → Stands start (c ++ s)
char (one {a = a} r) (byte h k _) w =
    let p : a ≤ 0x7F = r.1 in first (plain-first a (omega arith) (omega arith)) (follows-1 a (omega arith)) w
char (two {a = a} r t) _ w = first (starts-led a r.0 (omega (arith, r.1))) (follows-2 a (omega (arith, r.0)) (omega (arith, r.1))) (owed t w)
char (three_E0 t u) _ w = first (starts-led 0xE0 (omega arith) (omega arith)) (follows-E0 0xE0 refl) (owed t (owed u w))
char (three_E1 {a = a} r t u) _ w =
    let h : 0xE1 ≤ a = r.0 in
    let k : a ≤ 0xEC = r.1 in first (starts-led a (omega arith) (omega arith)) (three a (omega arith) (λ e. omega arith) (omega arith)) (owed t (owed u w))
char (three_ED t u) _ w = first (starts-led 0xED (omega arith) (omega arith)) (follows-ED 0xED refl) (owed t (owed u w))
char (three_EE {a = a} r t u) _ w =
    let h : 0xEE ≤ a = r.0 in
    let k : a ≤ 0xEF = r.1 in first (starts-led a (omega arith) (omega arith)) (three a (omega arith) (λ e. omega arith) (omega arith)) (owed t (owed u w))
char (four_F0 t u v) _ w = first (starts-led 0xF0 (omega arith) (omega arith)) (follows-F0 0xF0 refl) (owed t (owed u (owed v w)))
char (four_F1 {a = a} r t u v) _ w =
    let h : 0xF1 ≤ a = r.0 in
    let k : a ≤ 0xF3 = r.1 in
    first (starts-led a (omega arith) (omega arith)) (follows-4 a (omega arith) (λ e. omega arith) (λ e. omega arith)) (owed t (owed u (owed v w)))
char (four_F4 t u v) _ w = first (starts-led 0xF4 (omega arith) (omega arith)) (follows-F4 0xF4 refl) (owed t (owed u (owed v w)))

rest_free : (c : List ℕ) {s : List ℕ} → NoControl (c ++ s) → NoControl s
rest_free [] n = n
rest_free (b ∷ bs) (byte _ _ n) = rest_free bs n

written : {s : List ℕ} → Octets s → NoControl s → Stands start s
written none n = end
written (next {char = c} x o) n = char x n (written o (rest_free c n))

pub shown-exactly : (s : List ℕ) → ShownExactly s
unfolding is_shown
shown-exactly s = record { only = λ h. parts (read s 0 0x80 0xBF h); all = λ o n. (written o n).holds }
  where
    parts : {t : List ℕ} → Rest 0 0x80 0xBF t → Both t
    parts (whole o n) = (o, n)
