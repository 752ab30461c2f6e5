-- The four sections of a message one after the other. Assumes nothing.
use Rattle.wire.specs.declared.refusals.Refusal.TheVariants.{Length, Header, Malformed}
use Rattle.std.specs.Prelude.{Err, None, Ok, Option, Result, Some}
use Rattle.wire.specs.declared.message.Layout.{Layout}
use Rattle.wire.specs.declared.refusals.Refusal.{Refusal}
use mathlib.Core.Path.{◌≡◌, refl, sym, ap, ◌∙◌}
use mathlib.Core.List.{List}
use mathlib.Core.Bool.{Bool, true, false}
use Prim.Native.Nat.{ℕ, zero, suc, ◌+◌, ◌*◌, ◌<◌, ◌≤◌}
use native.Mathlib.Omega.{arith}
use borrow.Author.Tests.{lt-ltb, le-ltb}
use lib.ListN.{length}
use Rattle.wire.specs.octets.Octets.{word16}
use Rattle.wire.specs.message.Layout.{Item, Listing, listing, cut, list_from, question_at, record_at, and_then, sections_of, plain_header, message_at, read_of}
use Rattle.wire.specs.message.Places.{past_list}

-- a section as the code read it
pub is_cut : {A : Type 0} (r : (Option ℕ)) (l : Listing A) → r ≡ past_list l → r ≡ None → l ≡ cut
is_cut r (listing xs e) h k = let z : ◌≡◌ {A = ℕ} 0 1 = cc in absurd (omega arith)
is_cut r cut h k = refl

pub is-listing : {A : Type 0} (r : (Option ℕ)) (l : Listing A) (e : ℕ) → r ≡ past_list l → r ≡ Some e → (xs : List A) × (l ≡ listing xs e)
is-listing r (listing xs d) e h k = let g : d ≡ e = cc in (xs, ap (listing xs) g)
is-listing r cut e h k = let z : ◌≡◌ {A = ℕ} 0 1 = cc in absurd (omega arith)

-- the count n of a section is that of the header
module _ {A : Type 0} (part : ℕ → Item A) (n k at : ℕ) (e : n ≡ k) (r : (Option ℕ)) (h : r ≡ past_list (list_from part n at)) where
  now_cut : r ≡ None → list_from part k at ≡ cut
  now_cut c = ap (λ (j : ℕ). list_from part j at) (sym e) ∙ is_cut r (list_from part n at) h c

  now_list : (d : ℕ) → r ≡ Some d → (xs : List A) × (list_from part k at ≡ listing xs d)
  now_list d c =
      let l = is-listing r (list_from part n at) d h c in
      (l.0, ap (λ (j : ℕ). list_from part j at) (sym e) ∙ l.1)

module _ (p : List ℕ) (n₀ n₁ n₂ n₃ : ℕ) (e₀ : n₀ ≡ word16 p 4) (e₁ : n₁ ≡ word16 p 6) (e₂ : n₂ ≡ word16 p 8) (e₃ : n₃ ≡ word16 p 10)
    (q : (Option ℕ)) (hq : q ≡ past_list (list_from (question_at p) n₀ 12)) where
  pub questions-cut : q ≡ None → Err Malformed ≡ read_of (sections_of p)
  unfolding and_then
  questions-cut e = simp (now_cut (question_at p) n₀ (word16 p 4) 12 e₀ q hq e)

  module _ (a : ℕ) (ea : q ≡ Some a) (r₁ : (Option ℕ)) (h₁ : r₁ ≡ past_list (list_from (record_at p) n₁ a)) where
    qs : list_from (question_at p) (word16 p 4) 12 ≡ listing (now_list (question_at p) n₀ (word16 p 4) 12 e₀ q hq a ea).0 a
    qs = (now_list (question_at p) n₀ (word16 p 4) 12 e₀ q hq a ea).1

    pub answers_cut : r₁ ≡ None → Err Malformed ≡ read_of (sections_of p)
    unfolding and_then
    answers_cut e = simp (qs, now_cut (record_at p) n₁ (word16 p 6) a e₁ r₁ h₁ e)

    module _ (b : ℕ) (eb : r₁ ≡ Some b) (r₂ : (Option ℕ)) (h₂ : r₂ ≡ past_list (list_from (record_at p) n₂ b)) where
      an : list_from (record_at p) (word16 p 6) a ≡ listing (now_list (record_at p) n₁ (word16 p 6) a e₁ r₁ h₁ b eb).0 b
      an = (now_list (record_at p) n₁ (word16 p 6) a e₁ r₁ h₁ b eb).1

      pub authorities_cut : r₂ ≡ None → Err Malformed ≡ read_of (sections_of p)
      unfolding and_then
      authorities_cut e = simp (qs, an, now_cut (record_at p) n₂ (word16 p 8) b e₂ r₂ h₂ e)

      module _ (c : ℕ) (ec : r₂ ≡ Some c) (r₃ : (Option ℕ)) (h₃ : r₃ ≡ past_list (list_from (record_at p) n₃ c)) where
        ns : list_from (record_at p) (word16 p 8) b ≡ listing (now_list (record_at p) n₂ (word16 p 8) b e₂ r₂ h₂ c ec).0 c
        ns = (now_list (record_at p) n₂ (word16 p 8) b e₂ r₂ h₂ c ec).1

        pub additionals_cut : r₃ ≡ None → Err Malformed ≡ read_of (sections_of p)
        unfolding and_then
        additionals_cut e = simp (qs, an, ns, now_cut (record_at p) n₃ (word16 p 10) c e₃ r₃ h₃ e)

        pub sections_read : (d : ℕ) → r₃ ≡ Some d → (i f : ℕ) → i ≡ word16 p 0 → f ≡ word16 p 2
            → Ok (record {
              id = i;
              flags = f;
              questions = record { at = 12; count = n₀ };
              answers = record { at = a; count = n₁ };
              authorities = record { at = b; count = n₂ };
              additionals = record { at = c; count = n₃ };
              end = d;
            }) ≡ read_of (sections_of p)
        unfolding and_then
        sections_read d ed i f ei ef =
            simp (qs, an, ns, (now_list (record_at p) n₃ (word16 p 10) c e₃ r₃ h₃ d ed).1)
            (λ j. Ok (record {
              id = ei j;
              flags = ef j;
              questions = record { at = 12; count = e₀ j };
              answers = record { at = a; count = e₁ j };
              authorities = record { at = b; count = e₂ j };
              additionals = record { at = c; count = e₃ j };
              end = d;
            }))

-- the records of the section whose count stands at `n`, from `at` on, end at `e`
abbrev pub Past : List ℕ → ℕ → ℕ → ℕ → Type 0
Past p n at e = past_list (list_from (record_at p) (word16 p n) at) ≡ Some e

-- k of the three sections of records, of which the first begins at `a`, are read: the last two before `e` begin at `b` and `c`
pub record Through (p : List ℕ) (a k b c e : ℕ) : Type 0 where
  pub few : k ≤ 3
  pub none : k ≡ 0 → e ≡ a
  pub one : k ≡ 1 → (c ≡ a) × Past p 6 a e
  pub two : k ≡ 2 → (b ≡ a) × (Past p 6 a c × Past p 8 c e)
  pub three : k ≡ 3 → Past p 6 a b × (Past p 8 b c × Past p 10 c e)

pub through_none : (p : List ℕ) (a b c : ℕ) → Through p a 0 b c a
through_none p a b c = record {
  few = omega arith;
  none = λ z. refl;
  one = λ z. absurd (omega arith);
  two = λ z. absurd (omega arith);
  three = λ z. absurd (omega arith);
}

-- one section more
module _ (p : List ℕ) (a k b c e : ℕ) (so : Through p a k b c e) (lt : k < 3) (n : ℕ) (en : n ≡ word16 p (6 + 2 * k))
    (r : (Option ℕ)) (h : r ≡ past_list (list_from (record_at p) n e)) where
  here : (j i : ℕ) → k ≡ j → 6 + 2 * j ≡ i → r ≡ past_list (list_from (record_at p) (word16 p i) e)
  here j i z w =
      let g : n ≡ word16 p i = en ∙ ap (λ (m : ℕ). word16 p (6 + 2 * m)) z ∙ ap (word16 p) w in
      h ∙ ap (λ (m : ℕ). past_list (list_from (record_at p) m e)) g

  pub through_next : (next : ℕ) → r ≡ Some next → Through p a (k + 1) c e next
  through_next next f = record {
    few = omega arith;
    none = λ z. absurd (omega arith);
    one = λ z.
        let y : k ≡ 0 = omega arith in
        let g : e ≡ a = so.none y in
        (g, ap (λ (m : ℕ). past_list (list_from (record_at p) (word16 p 6) m)) (sym g) ∙ sym (here 0 6 y refl) ∙ f);
    two = λ z.
        let y : k ≡ 1 = omega arith in
        ((so.one y).0, ((so.one y).1, sym (here 1 8 y refl) ∙ f));
    three = λ z.
        let y : k ≡ 2 = omega arith in
        ((so.two y).1.0, ((so.two y).1.1, sym (here 2 10 y refl) ∙ f));
  }

module _ (p : List ℕ) (n₀ : ℕ) (e₀ : n₀ ≡ word16 p 4) (q : (Option ℕ)) (hq : q ≡ past_list (list_from (question_at p) n₀ 12)) (a : ℕ) (ea : q ≡ Some a)
    (k b c e : ℕ) (so : Through p a k b c e) where
  abbrev past : ℕ → ℕ → (Option ℕ)
  past n at = past_list (list_from (record_at p) (word16 p n) at)

  pub through_cut : k < 3 → (n : ℕ) → n ≡ word16 p (6 + 2 * k) → (r : (Option ℕ)) → r ≡ past_list (list_from (record_at p) n e) → r ≡ None → Err Malformed ≡ read_of (sections_of p)
  through_cut lt n en r h f = go k refl
    where
      go : (j : ℕ) → k ≡ j → Err Malformed ≡ read_of (sections_of p)
      go zero z =
          answers_cut p n₀ (word16 p 6) (word16 p 8) (word16 p 10) e₀ refl refl refl q hq a ea
          r (here p a k b c e so lt n en r h 0 6 z refl ∙ ap (past 6) (so.none z)) f
      go (suc zero) z =
          authorities_cut p n₀ (word16 p 6) (word16 p 8) (word16 p 10) e₀ refl refl refl q hq a ea (past 6 a) refl e (so.one z).1
          r (here p a k b c e so lt n en r h 1 8 z refl) f
      go (suc (suc zero)) z =
          additionals_cut p n₀ (word16 p 6) (word16 p 8) (word16 p 10) e₀ refl refl refl q hq a ea (past 6 a) refl c (so.two z).1.0
          (past 8 c) refl e (so.two z).1.1 r (here p a k b c e so lt n en r h 2 10 z refl) f
      go (suc (suc (suc j))) z = absurd (omega arith)

  pub through_all : 3 ≤ k → (n₁ n₂ n₃ : ℕ) → n₁ ≡ word16 p 6 → n₂ ≡ word16 p 8 → n₃ ≡ word16 p 10 → (i f : ℕ) → i ≡ word16 p 0 → f ≡ word16 p 2
      → Ok (record {
        id = i;
        flags = f;
        questions = record { at = 12; count = n₀ };
        answers = record { at = a; count = n₁ };
        authorities = record { at = b; count = n₂ };
        additionals = record { at = c; count = n₃ };
        end = e;
      }) ≡ read_of (sections_of p)
  through_all all n₁ n₂ n₃ e₁ e₂ e₃ i f ei ef =
      let z : k ≡ 3 = omega (arith, so.few) in
      let t = so.three z in
      (λ j. Ok (record {
        id = i;
        flags = f;
        questions = record { at = 12; count = n₀ };
        answers = record { at = a; count = e₁ j };
        authorities = record { at = b; count = e₂ j };
        additionals = record { at = c; count = e₃ j };
        end = e;
      }))
      ∙ sections_read p n₀ (word16 p 6) (word16 p 8) (word16 p 10) e₀ refl refl refl q hq a ea (past 6 a) refl b t.0 (past 8 b) refl c t.1.0
      (past 10 c) refl e t.1.1 i f ei ef

-- the tests before the sections
module _ (p : List ℕ) where
  pub message_short : length p < 12 → Err Length ≡ read_of (message_at p)
  unfolding message_at
  message_short h = simp (lt-ltb _ _ h)

  module _ (h : 12 ≤ length p) where
    pub message_long : 8972 < length p → Err Length ≡ read_of (message_at p)
    unfolding message_at
    message_long l = simp (le-ltb _ _ h, lt-ltb _ _ l)

    module _ (l : length p ≤ 8972) (f : ℕ) (ef : f ≡ word16 p 2) (v : Bool) (e : v ≡ plain_header f) where
      header : plain_header (word16 p 2) ≡ v
      header = sym (e ∙ ap plain_header ef)

      pub message_header : v ≡ false → Err Header ≡ read_of (message_at p)
      unfolding message_at
      message_header t = simp (le-ltb _ _ h, le-ltb _ _ l, header ∙ t)

      pub message_sections : v ≡ true → (r : (Result Layout Refusal)) → r ≡ read_of (sections_of p) → r ≡ read_of (message_at p)
      unfolding message_at
      message_sections t r s = simp (le-ltb _ _ h, le-ltb _ _ l, header ∙ t) s
