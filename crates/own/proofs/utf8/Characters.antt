-- What a screen can show, a character at a time. Assumes nothing.
use mathlib.Core.Path.{◌≡◌, refl, sym, ap, ◌∙◌}
use mathlib.Core.List.{List, [], ◌∷◌}
use mathlib.Core.Bool.{Bool, true, false, ◌&&◌, and-false}
use Prim.Native.Nat.{ℕ, suc, ◌+◌, ◌-◌, ◌<◌, ◌≤◌}
use native.Mathlib.Omega.{arith}
use borrow.Author.Tests.{ne_eqb, lt-ltb}
use lib.ListN.{length, get_or, drop, length-drop, drop_of_length-le}
use lib.Dec.{ltb}
use Rattle.own.specs.declared.utf8.Next.{Next}
use Rattle.own.specs.utf8.Utf8.{owing, within, starts, following, may_stand, behind, shown_from, is_shown}
use Rattle.own.proofs.utf8.Bytes.{front, within-true, starts-plain, starts-lead, starts-led, follows-1, stands_owed, behind-owed}

-- a length says that so many bytes at `i` may stand before what a screen can show, and 0 that none may
abbrev pub Told : List ℕ → ℕ → Bool → ℕ → Type 0
Told s i shown r = (i + r ≤ length s) × (shown ≡ (ltb 0 r && is_shown (drop (i + r) s)))

-- fewer bytes than are owed
short : (bs : List ℕ) (n : Next) → length bs < n.owed → shown_from n bs ≡ false
unfolding shown_from
short [] n h = let k : 0 < n.owed = h in ne_eqb n.owed 0 (λ e. omega arith)
short (b ∷ bs) n h =
    let k : suc (length bs) < n.owed = h in
    let o : n.owed ≡ 0 → ⊥ = (λ e. omega arith) in
    let r : shown_from (owing (n.owed - 1) 0x80 0xBF) bs ≡ false = short bs _ (omega arith) in
    simp (behind-owed n b o, r, and-false)

pub cut : (s : List ℕ) (i : ℕ) (n : Next) → i < length s → length s - i ≤ n.owed → shown_from n (drop (i + 1) s) ≡ false
cut s i n h k = short (drop (i + 1) s) n (simp length-drop (omega arith))

-- a byte that is owed
module _ (s : List ℕ) (j : ℕ) (h : j < length s) (n : Next) (o : 0 < n.owed) (v : Bool) (is : v ≡ within n.low n.high (get_or s j 0)) where
  owed_turn : shown_from n (drop j s) ≡ (v && shown_from (owing (n.owed - 1) 0x80 0xBF) (drop (j + 1) s))
  unfolding shown_from
  owed_turn = let z : n.owed ≡ 0 → ⊥ = (λ e. omega arith) in rw (front s j h) (simp (stands_owed n (get_or s j 0) z, behind-owed n (get_or s j 0) z, sym is))

  pub owed_stop : v ≡ false → shown_from n (drop j s) ≡ false
  owed_stop t = owed_turn ∙ simp t

  pub owed_on : v ≡ true → (m k : ℕ) → m + 1 ≡ n.owed → k ≡ j + 1 → shown_from n (drop j s) ≡ shown_from (owing m 0x80 0xBF) (drop k s)
  owed_on t m k e d =
      let l : n.owed - 1 ≡ m = omega arith in
      let u : shown_from n (drop j s) ≡ shown_from (owing (n.owed - 1) 0x80 0xBF) (drop (j + 1) s) = owed_turn ∙ simp t in
      u ∙ ap (λ (a : ℕ). shown_from (owing a 0x80 0xBF) (drop (j + 1) s)) l ∙ ap (λ (a : ℕ). shown_from (owing m 0x80 0xBF) (drop a s)) (sym d)

pub owed_by : {n : Next} {k low high : ℕ} → n ≡ owing k low high → n.owed ≡ k
owed_by e = ap (λ (n : Next). n.owed) e

-- a character's first byte: of ASCII, none, and one that others follow
module _ (s : List ℕ) (i : ℕ) (h : i < length s) where
  first : {n : Next} → starts (get_or s i 0) ≡ true → following (get_or s i 0) ≡ n → is_shown (drop i s) ≡ shown_from n (drop (i + 1) s)
  unfolding is_shown shown_from may_stand behind
  first t f = rw (front s i h) (simp (t, f))

  pub alone : within 0x20 0x7E (get_or s i 0) ≡ true → is_shown (drop i s) ≡ is_shown (drop (i + 1) s)
  unfolding is_shown
  alone t = let r = within-true 0x20 0x7E (get_or s i 0) t in first (sym (starts-plain (get_or s i 0) _ refl t)) (follows-1 (get_or s i 0) (omega (arith, r.1)))

  pub unstarted : within 0x20 0x7E (get_or s i 0) ≡ false → within 0xC2 0xF4 (get_or s i 0) ≡ false → is_shown (drop i s) ≡ false
  unfolding is_shown shown_from may_stand
  unstarted e f =
      let z : starts (get_or s i 0) ≡ false = sym (starts-lead (get_or s i 0) _ refl e _ refl) ∙ f in
      rw (front s i h) (simp z)

  pub led : {n : Next} (r : ℕ) → (0xC2 ≤ get_or s i 0) × (get_or s i 0 ≤ 0xF4) → following (get_or s i 0) ≡ n → Told s i (shown_from n (drop (i + 1) s)) r → Told s i (is_shown (drop i s)) r
  led r k f t = (t.0, first (starts-led (get_or s i 0) k.0 k.1) f ∙ t.1)

-- a turn of the loop over the characters
module _ (s : List ℕ) (i r : ℕ) (inv : is_shown s ≡ is_shown (drop i s)) where
  pub shown-stop : r ≡ 0 → Told s i (is_shown (drop i s)) r → false ≡ is_shown s
  shown-stop e t = sym (inv ∙ t.1 ∙ ap (λ (n : ℕ). ltb 0 n && is_shown (drop (i + r) s)) e)

  pub shown-on : 0 < r → Told s i (is_shown (drop i s)) r → is_shown s ≡ is_shown (drop (i + r) s)
  shown-on h t = inv ∙ t.1 ∙ simp (lt-ltb 0 r h)

  pub shown-end : length s ≤ i → true ≡ is_shown s
  unfolding is_shown shown_from
  shown-end h = sym (inv ∙ ap is_shown (drop_of_length-le s h))
