-- The plan that a pass over the table gathers has the first 121 known answers, each a record that can be written. Assumes nothing.
use mathlib.Core.Path.{◌≡◌, refl, sym, ap, ap₂, subst, ◌∙◌}
use mathlib.Core.Bool.{Bool, true, false, cond, ◌&&◌}
use mathlib.Core.List.{List, [], ◌∷◌, ◌++◌, map, append_assoc, append-nil}
use Prim.Native.Nat.{ℕ, zero, suc, ◌+◌, ◌-◌, ◌/◌, ◌≤◌, ◌<◌}
use native.Mathlib.Omega.{arith}
use native.Mathlib.Numerals.{add-one}
use lib.ListN.{length, get_or, take, drop, set, length-append, length-set, drop_of_length-le}
use lib.Seq.{take_all, take-suc-set, drop-cons, take-append-le}
use lib.Dec.{ltb, leb, eqb}
use borrow.Author.Tests.{ltb-true, ltb-false, leb-true, le-leb, eqb-true}
use mathlib.Mathlib.Data.Bool.Basic.{and-eq-true-eq-eq-true-and-eq-true as both}
use Rattle.wire.specs.names.Names.{labels_fill, is_name}
use Rattle.wire.specs.case_folding.Fold.{lower, same_name}
use Rattle.wire.proofs.case_folding.Equal.{heads, same_length}
use Rattle.wire.specs.message.Message.{Record, record_of}
use Rattle.writer.specs.Fit.{form_for, is_shaped}
use Rattle.writer.proofs.Fitting.{fit_of}
use Rattle.roundtrip.specs.Writable.{Each, none, one, IsRecord}
use Rattle.cache.specs.declared.entries.Entry.{Entry}
use Rattle.cache.specs.entries.Entries.{blank, slot_of, owner_held, rdata_held, is_live, is_of, live_of, lesser}
use Rattle.browser.specs.declared.Browser.{Browser}
use Rattle.browser.specs.declared.known_answers.Known.{Known}
use Rattle.browser.specs.declared.known_answers.Plan.{Plan}
use Rattle.browser.specs.service.Service.{service_name}
use Rattle.browser.specs.list.Listing.{is_shown}
use Rattle.browser.specs.known_answers.Known.{over_half, is_known, shown_ttl, answer_of, known_in, answers_of}
use Rattle.browser.specs.known_answers.Plans.{empty_plan, known_of, plan_with, plan_from}
use Rattle.browser.specs.query.Drafts.{record_in, slots_of}

-- ---- an owner that equals a name is a name

small : (x y : ℕ) → y < 64 → lower x ≡ lower y → x ≡ y
small x y l e = go (leb 65 x && leb x 90) (leb 65 y && leb y 90) refl refl e
  where
    go : (s t : Bool) → (leb 65 x && leb x 90) ≡ s → (leb 65 y && leb y 90) ≡ t → cond s (x + 32) x ≡ cond t (y + 32) y → x ≡ y
    go s true hs ht k = let f = leb-true 65 y ((both (leb 65 y) (leb y 90)).0 ht).0 in absurd (omega arith)
    go true false hs ht k = let f = leb-true 65 x ((both (leb 65 x) (leb x 90)).0 hs).0 in absurd (omega arith)
    go false false hs ht k = k

same_fill : (k : ℕ) (xs ys : List ℕ) → same_name xs ys ≡ true → labels_fill k ys ≡ true → labels_fill k xs ≡ true
unfolding same_name labels_fill
same_fill k [] [] h f = f
same_fill k [] (y ∷ ys) h f = let z : ◌≡◌ {A = ℕ} 0 1 = cc in absurd (omega arith)
same_fill k (x ∷ xs) [] h f = let z : ◌≡◌ {A = ℕ} 0 1 = cc in absurd (omega arith)
same_fill (suc k) (x ∷ xs) (y ∷ ys) h f = same_fill k xs ys (heads x y xs ys h).1 f
same_fill zero (x ∷ []) (zero ∷ []) h f = let e : x ≡ 0 = small x 0 (omega arith) (heads x 0 [] [] h).0 in ap (λ (z : ℕ). labels_fill 0 (z ∷ [])) e
same_fill zero (x ∷ (w ∷ ws)) (zero ∷ []) h f = let g = (heads x 0 (w ∷ ws) [] h).1 in let z : ◌≡◌ {A = ℕ} 0 1 = cc in absurd (omega arith)
same_fill zero (x ∷ xs) (zero ∷ (y ∷ ys)) h f = let z : ◌≡◌ {A = ℕ} 0 1 = cc in absurd (omega arith)
same_fill zero (x ∷ xs) (suc n ∷ ys) h f =
    let g = (both (ltb (suc n) 64) (labels_fill (suc n) ys)).0 f in
    let t = heads x (suc n) xs ys h in
    let e : x ≡ suc n = small x (suc n) (ltb-true (suc n) 64 g.0) t.0 in
    ap (λ (z : ℕ). labels_fill 0 (z ∷ xs)) e ∙ ap₂ (λ (p q : Bool). p && q) g.0 (same_fill (suc n) xs ys t.1 g.1)

same_named : (xs ys : List ℕ) → same_name xs ys ≡ true → is_name ys ≡ true → is_name xs ≡ true
same_named xs ys h f =
    let g = (both (labels_fill 0 ys) (leb (length ys) 255)).0 f in
    ap₂ (λ (p q : Bool). p && q) (same_fill 0 xs ys h g.0) (ap (λ (n : ℕ). leb n 255) (same_length xs ys h) ∙ g.1)

-- ---- the record of a known answer

module _ (now : ℕ) (store : List ℕ) (b : Browser) (i : ℕ) (e : Entry) (known : is_known now store b i e ≡ true) where
  parts : (eqb e.owner (length (service_name b)) ≡ true) × ((same_name (owner_held store i e) (service_name b) ≡ true) × (is_name (rdata_held store i e) ≡ true))
  unfolding is_known is_shown live_of is_of
  parts =
      let s = ((both (is_shown now store b i e) (over_half now e)).0 known).0 in
      let t = (both (is_live now e && is_of store (service_name b) 12 i e) (is_name (rdata_held store i e))).0 s in
      let o = ((both (is_live now e) (is_of store (service_name b) 12 i e)).0 t.0).1 in
      let p = ((both (eqb e.rtype 12) (eqb e.owner (length (service_name b)) && same_name (owner_held store i e) (service_name b))).0 o).1 in
      let q = (both (eqb e.owner (length (service_name b))) (same_name (owner_held store i e) (service_name b))).0 p in (q.0, (q.1, t.1))

  pub record_known : record_in store (length (service_name b)) (known_of now i e) ≡ answer_of now store i e
  unfolding answer_of
  record_known =
      let l : length (service_name b) ≡ e.owner = sym (eqb-true _ _ parts.0) in
      ap (λ (n : ℕ). record_of (take n (slot_of store i)) 12 1 (shown_ttl now e) (rdata_held store i e)) l

  pub answer_fit : is_name (service_name b) ≡ true → IsRecord (answer_of now store i e)
  unfolding answer_of is_shaped form_for shown_ttl
  answer_fit named =
      let d : List ℕ = rdata_held store i e in
      let z : length d - 0 - 0 ≡ length d = omega arith in
      let s : take (length d - 0 - 0) d ≡ d = ap (λ (n : ℕ). take n d) z ∙ take_all (length d) d (omega arith) in
      let long : length d ≤ 255 = leb-true (length d) 255 ((both (labels_fill 0 d) (leb (length d) 255)).0 parts.1.1).1 in
      let zero_in : leb (0 + 0) (length d) ≡ true = le-leb 0 (length d) (omega arith) in
      fit_of (owner_held store i e) 12 (lesser (lesser e.ttl ((e.expiry - now) / 1000)) 2147483647) d
      (same_named (owner_held store i e) (service_name b) parts.1.0 named)
      (ap₂ (λ (p q : Bool). p && q) zero_in (ap is_name s ∙ parts.1.1)) (omega arith) (most (lesser e.ttl ((e.expiry - now) / 1000)))
    where
      most : (t : ℕ) → lesser t 2147483647 < 2147483648
      most t = go (leb t 2147483647) refl
        where
          go : (c : Bool) → leb t 2147483647 ≡ c → lesser t 2147483647 < 2147483648
          go true k = let m : t ≤ 2147483647 = leb-true t 2147483647 k in rw k (omega arith)
          go false k = rw k (omega arith)

-- ---- the known answers of some entries

unfoldable pub knowns_in : ℕ → List ℕ → Browser → ℕ → List Entry → List Known
knowns_in now store b i [] = []
knowns_in now store b i (e ∷ es) = cond (is_known now store b i e) (known_of now i e ∷ knowns_in now store b (suc i) es) (knowns_in now store b (suc i) es)

module _ (now : ℕ) (store : List ℕ) (b : Browser) where
  -- their slots
  pub knowns_slots : (i : ℕ) (es : List Entry) → slots_of (knowns_in now store b i es) ≡ known_in now store b i es
  unfolding knowns_in known_in
  knowns_slots i [] = refl
  knowns_slots i (e ∷ es) = go (is_known now store b i e) (knowns_slots (suc i) es)
    where
      go : (t : Bool) → slots_of (knowns_in now store b (suc i) es) ≡ known_in now store b (suc i) es
          → slots_of (cond t (known_of now i e ∷ knowns_in now store b (suc i) es) (knowns_in now store b (suc i) es))
          ≡ cond t (i ∷ known_in now store b (suc i) es) (known_in now store b (suc i) es)
      go true ih = ap (λ (l : List ℕ). i ∷ l) ih
      go false ih = ih

  module _ (all : List Entry) where
    -- their records
    pub knowns_records : (i : ℕ) (es : List Entry) → es ≡ drop i all → map (record_in store (length (service_name b))) (knowns_in now store b i es)
        ≡ answers_of now store all (known_in now store b i es)
    unfolding knowns_in known_in
    knowns_records i [] at = refl
    knowns_records i (e ∷ es) at = go (is_known now store b i e) refl (knowns_records (suc i) es (later at))
      where
        within : (e ∷ es) ≡ drop i all → i < length all
        within at = go₁ (ltb i (length all)) refl
          where
            go₁ : (t : Bool) → ltb i (length all) ≡ t → i < length all
            go₁ true k = ltb-true i (length all) k
            go₁ false k =
                let past : length all ≤ i = ltb-false i (length all) k in
                let nil : drop i all ≡ [] = drop_of_length-le all past in
                let z = ap length (at ∙ nil) in absurd (omega arith)

        whole : (e ∷ es) ≡ drop i all → (e ∷ es) ≡ get_or all i blank ∷ drop (suc i) all
        whole at = at ∙ drop-cons all i blank (within at)

        later : (e ∷ es) ≡ drop i all → es ≡ drop (suc i) all
        later at = ap (λ (l : List Entry). drop 1 l) (whole at)

        here : (e ∷ es) ≡ drop i all → e ≡ get_or all i blank
        here at = ap (λ (l : List Entry). get_or l 0 blank) (whole at)

        rest : List Record
        rest = answers_of now store all (known_in now store b (suc i) es)

        go : (t : Bool) → is_known now store b i e ≡ t → map (record_in store (length (service_name b))) (knowns_in now store b (suc i) es)
            ≡ answers_of now store all (known_in now store b (suc i) es)
            → map (record_in store (length (service_name b))) (cond t (known_of now i e ∷ knowns_in now store b (suc i) es) (knowns_in now store b (suc i) es))
            ≡ answers_of now store all (cond t (i ∷ known_in now store b (suc i) es) (known_in now store b (suc i) es))
        go true k ih =
            ap₂ (λ (r : Record) (l : List Record). r ∷ l) (record_known now store b i e k ∙ ap (answer_of now store i) (here at)) ih
        go false k ih = ih

  -- each can be written
  pub knowns_fit : is_name (service_name b) ≡ true → (i : ℕ) (es : List Entry) → Each IsRecord
      (map (record_in store (length (service_name b))) (knowns_in now store b i es))
  unfolding knowns_in
  knowns_fit named i [] = none
  knowns_fit named i (e ∷ es) = go (is_known now store b i e) refl (knowns_fit named (suc i) es)
    where
      go : (t : Bool) → is_known now store b i e ≡ t → Each IsRecord (map (record_in store (length (service_name b))) (knowns_in now store b (suc i) es))
          → Each IsRecord (map (record_in store (length (service_name b))) (cond t (known_of now i e ∷ knowns_in now store b (suc i) es)
          (knowns_in now store b (suc i) es)))
      go true k ih = one (subst (λ (r : Record). IsRecord r) (sym (record_known now store b i e k)) (answer_fit now store b i e k named)) ih
      go false k ih = ih

-- ---- the plan

pub record Filled (p : Plan) (ks : List Known) : Type 0 where
  pub count : p.n ≡ length ks
  pub known : take p.n p.known ≡ ks
  pub size : length p.known ≡ 121
  pub few : length ks ≤ 121

pub filled_none : Filled empty_plan []
unfolding empty_plan
filled_none = record { count = refl; known = refl; size = refl; few = omega arith }

absorb : (n : ℕ) (xs ys : List Known) → take n (take n xs ++ ys) ≡ take n (xs ++ ys)
absorb zero xs ys = refl
absorb (suc n) [] ys = refl
absorb (suc n) (x ∷ xs) ys = ap (λ (l : List Known). x ∷ l) (absorb n xs ys)

module _ (now : ℕ) (store : List ℕ) (b : Browser) where
  abbrev new : ℕ → Entry → List Known
  new i e = cond (is_known now store b i e) (known_of now i e ∷ []) []

  filled-with : (i : ℕ) (e : Entry) (p : Plan) (ks : List Known) → Filled p ks → Filled (plan_with now store b i e p)
      (take 121 (ks ++ cond (is_known now store b i e) (known_of now i e ∷ []) []))
  unfolding plan_with
  filled-with i e p ks f = go (ltb p.n 121) refl (is_known now store b i e)
    where
      same : take 121 (ks ++ []) ≡ ks
      same = ap (take 121) (append-nil ks) ∙ take_all 121 ks f.few

      kept : (l : List Known) → take 121 l ≡ ks → Filled p (take 121 l)
      kept l e = subst (λ (x : List Known). Filled p x) (sym e) f

      go : (s : Bool) → ltb p.n 121 ≡ s → (t : Bool)
          → Filled (cond (s && t) (record { known = set p.known p.n (known_of now i e); n = p.n + 1 }) p)
          (take 121 (ks ++ cond t (known_of now i e ∷ []) []))
      go false h true =
          let n-is : 121 ≤ p.n = ltb-false p.n 121 h in
          let c = f.count in
          let w = f.few in
          let l : length ks ≡ 121 = omega arith in
          kept (ks ++ (known_of now i e ∷ [])) (take-append-le 121 ks (known_of now i e ∷ []) (omega arith) ∙ take_all 121 ks f.few)
      go false h false = kept (ks ++ []) same
      go true h false = kept (ks ++ []) same
      go true h true =
          let less : p.n < 121 = ltb-true p.n 121 h in
          let c = f.count in
          let z = f.size in
          let a = length-append ks (known_of now i e ∷ []) in
          let all : take 121 (ks ++ (known_of now i e ∷ [])) ≡ ks ++ (known_of now i e ∷ []) = take_all 121 (ks ++ (known_of now i e ∷ [])) (omega arith) in
          let fits : p.n < length p.known = omega arith in
          subst (λ (x : List Known). Filled (record { known = set p.known p.n (known_of now i e); n = p.n + 1 }) x) (sym all) (record {
            count = omega arith;
            known = ap (λ (k : ℕ). take k (set p.known p.n (known_of now i e))) (add-one p.n) ∙ take-suc-set p.known p.n (known_of now i e) fits
                ∙ ap (λ (l : List Known). l ++ (known_of now i e ∷ [])) f.known;
            size = length-set p.known p.n (known_of now i e) ∙ z;
            few = omega arith;
          })

  pub filled-from : (i : ℕ) (es : List Entry) (p : Plan) (ks : List Known) → Filled p ks → Filled (plan_from now store b i es p)
      (take 121 (ks ++ knowns_in now store b i es))
  unfolding plan_from knowns_in
  filled-from i [] p ks f = subst (λ (x : List Known). Filled p x) (sym (ap (take 121) (append-nil ks) ∙ take_all 121 ks f.few)) f
  filled-from i (e ∷ es) p ks f =
      subst (λ (x : List Known). Filled (plan_from now store b (suc i) es (plan_with now store b i e p)) x) (go (is_known now store b i e))
      (filled-from (suc i) es (plan_with now store b i e p) (take 121 (ks ++ cond (is_known now store b i e) (known_of now i e ∷ []) [])) (filled-with i e p ks f))
    where
      rest : List Known
      rest = knowns_in now store b (suc i) es

      go : (t : Bool) → take 121 (take 121 (ks ++ cond t (known_of now i e ∷ []) []) ++ knowns_in now store b (suc i) es)
          ≡ take 121 (ks ++ cond t (known_of now i e ∷ knowns_in now store b (suc i) es) (knowns_in now store b (suc i) es))
      go true = absorb 121 (ks ++ (known_of now i e ∷ [])) (knowns_in now store b (suc i) es)
          ∙ ap (take 121) (append_assoc ks (known_of now i e ∷ []) (knowns_in now store b (suc i) es))
      go false = absorb 121 (ks ++ []) (knowns_in now store b (suc i) es) ∙ ap (λ (l : List Known). take 121 (l ++ knowns_in now store b (suc i) es))
          (append-nil ks)
