-- The list shows exactly the targets of live, well-formed PTR entries of the name, each once, lowest entry first. Assumes nothing.
use Rattle.std.proofs.Common.{None, Option}
use mathlib.Core.Path.{◌≡◌, refl, sym, ap, ap₂, subst, ◌∙◌}
use mathlib.Core.Bool.{Bool, true, false, cond, not, ◌&&◌, ◌||◌}
use mathlib.Core.List.{List, [], ◌∷◌}
use mathlib.Core.Logic.{◌⊎◌, ⊎_elim, inl, inr}
use Prim.Native.Nat.{ℕ, zero, suc, ◌+◌, ◌≤◌, ◌<◌}
use native.Mathlib.Omega.{arith}
use lib.ListN.{length, get_or, take}
use lib.Seq.{get_or-take, length-take-le}
use lib.Dec.{ltb, eqb}
use borrow.Author.Tests.{ltb-true, ltb-false, eqb-true, eqb-false}
use Rattle.writer.proofs.compression.Places.{rising_from}
use mathlib.Mathlib.Data.Bool.Basic.{and-eq-true-eq-eq-true-and-eq-true as both}
use Rattle.wire.specs.case_folding.Fold.{same_name}
use Rattle.wire.specs.names.Names.{is_name}
use Rattle.wire.proofs.case_folding.Equal.{same_refl, same_sym, same_trans}
use Rattle.writer.specs.compression.Sentence.{Among, first, later, Rising, empty, next}
use Rattle.cache.specs.declared.entries.Entry.{Entry}
use Rattle.cache.specs.entries.Entries.{blank, live_of, rdata_held}
use Rattle.cache.specs.laws.Counts.{any_from}
use Rattle.browser.specs.declared.Browser.{Browser}
use Rattle.browser.specs.service.Service.{service_name}
use Rattle.browser.specs.list.Listing.{is_shown, shows_too, is_listed, all_of, list_in}
use Rattle.browser.specs.list.Shows.{target_at, Lists, Shows, ListExact}
use Rattle.browser.specs.Calls.{Turn, turn_with, turn_of, tick_refusal, tick_of, resumed, asked}
use Rattle.browser.specs.Runs.{Event, packet, tick, State, after, after_all}
use Rattle.browser.specs.known_answers.Known.{known_from, known_owed}
use Rattle.browser.specs.refresh.Refresh.{query_due}
use Rattle.browser.specs.query.Query.{asking, packet_for, stop_for}

-- ---- some entry passes a test

any_some : (f : ℕ → Entry → Bool) (k : ℕ) (es : List Entry) → any_from f k es ≡ true → (m : ℕ) × ((m < length es) × (f (k + m) (get_or es m blank) ≡ true))
unfolding any_from
any_some f k [] h = let z : ◌≡◌ {A = ℕ} 0 1 = cc in absurd (omega arith)
any_some f k (e ∷ es) h = go (f k e) refl h (any_some f (suc k) es)
  where
    go : (t : Bool) → f k e ≡ t → (t || any_from f (suc k) es) ≡ true → (any_from f (suc k) es ≡ true → (m : ℕ)
        × ((m < length es) × (f (suc k + m) (get_or es m blank) ≡ true)))
        → (m : ℕ) × ((m < suc (length es)) × (f (k + m) (get_or (e ∷ es) m blank) ≡ true))
    go true t h ih = let at : k + 0 ≡ k = omega arith in (0, (omega arith, ap (λ (j : ℕ). f j e) at ∙ t))
    go false t h ih =
        let r = ih h in
        let at : k + suc r.0 ≡ suc k + r.0 = omega arith in (suc r.0, (omega (arith, r.1.0), ap (λ (j : ℕ). f j (get_or es r.0 blank)) at ∙ r.1.1))

any_at : (f : ℕ → Entry → Bool) (k m : ℕ) (es : List Entry) → m < length es → f (k + m) (get_or es m blank) ≡ true → any_from f k es ≡ true
unfolding any_from
any_at f k m [] h t = absurd (omega arith)
any_at f k zero (e ∷ es) h t = let at : k ≡ k + 0 = omega arith in ap (λ (c : Bool). c || any_from f (suc k) es) (ap (λ (j : ℕ). f j e) at ∙ t)
any_at f k (suc m) (e ∷ es) h t =
    let at : suc k + m ≡ k + suc m = omega arith in
    ap (λ (c : Bool). f k e || c) (any_at f (suc k) m es (omega arith) (ap (λ (j : ℕ). f j (get_or es m blank)) at ∙ t)) ∙ or_true (f k e)
  where
    or_true : (c : Bool) → (c || true) ≡ true
    or_true true = refl
    or_true false = refl

-- ---- all slots that pass a test

holds : {i : ℕ} {l : List ℕ} → Among i l → 0 < length l
holds first = omega arith
holds (later a) = omega arith

either : {i k : ℕ} {l : List ℕ} → Among i (k ∷ l) → (k ≡ i) ⊎ Among i l
either first = inl refl
either (later a) = inr a

module _ (test : ℕ → Bool) where
  all_among : (k n i : ℕ) → k ≤ i → i < k + n → test i ≡ true → Among i (all_of test k n)
  unfolding all_of
  all_among k zero i low high t = absurd (omega arith)
  all_among k (suc n) i low high t = go (eqb k i) refl (λ (l : suc k ≤ i). all_among (suc k) n i l (omega arith) t)
    where
      go : (c : Bool) → eqb k i ≡ c → (suc k ≤ i → Among i (all_of test (suc k) n)) → Among i (cond (test k) (k ∷ all_of test (suc k) n) (all_of test (suc k) n))
      go true e ih =
          let same : k ≡ i = eqb-true k i e in
          subst (λ (c : Bool). Among i (cond c (k ∷ all_of test (suc k) n) (all_of test (suc k) n))) (sym (ap test same ∙ t))
          (subst (λ (j : ℕ). Among i (j ∷ all_of test (suc k) n)) (sym same) first)
      go false e ih = past (test k) (ih (let d = eqb-false k i e in omega arith))
        where
          past : (c : Bool) → Among i (all_of test (suc k) n) → Among i (cond c (k ∷ all_of test (suc k) n) (all_of test (suc k) n))
          past true a = later a
          past false a = a

  all_sound : (k n i : ℕ) → Among i (all_of test k n) → (k ≤ i) × ((i < k + n) × (test i ≡ true))
  unfolding all_of
  all_sound k zero i a = let h : 0 < length {A = ℕ} [] = holds a in absurd (omega arith)
  all_sound k (suc n) i a = go (test k) refl a (all_sound (suc k) n i)
    where
      go : (c : Bool) → test k ≡ c → Among i (cond c (k ∷ all_of test (suc k) n) (all_of test (suc k) n))
          → (Among i (all_of test (suc k) n) → (suc k ≤ i) × ((i < suc k + n) × (test i ≡ true)))
          → (k ≤ i) × ((i < k + suc n) × (test i ≡ true))
      go true t b ih = ⊎_elim (λ (same : k ≡ i). (omega (arith, same), (omega (arith, same), ap test (sym same) ∙ t)))
          (λ (c : Among i (all_of test (suc k) n)). let r = ih c in (omega (arith, r.0), (omega (arith, r.1.0), r.1.1))) (either b)
      go false t b ih = let r = ih b in (omega (arith, r.0), (omega (arith, r.1.0), r.1.1))

  all-rising : (k n : ℕ) → Rising k (k + n) (all_of test k n)
  unfolding all_of
  all-rising k zero = let l : k ≤ k + 0 = omega arith in empty l
  all-rising k (suc n) = go (test k) (all-rising (suc k) n)
    where
      same : suc k + n ≡ k + suc n
      same = omega arith

      go : (c : Bool) → Rising (suc k) (suc k + n) (all_of test (suc k) n) → Rising k (k + suc n) (cond c (k ∷ all_of test (suc k) n) (all_of test (suc k) n))
      go true r = let l : k ≤ k = omega arith in next l (subst (λ (m : ℕ). Rising (suc k) m (all_of test (suc k) n)) same r)
      go false r = rising_from k (omega arith) (subst (λ (m : ℕ). Rising (suc k) m (all_of test (suc k) n)) same r)

all_same : (f g : ℕ → Bool) → ((i : ℕ) → f i ≡ g i) → (k n : ℕ) → all_of f k n ≡ all_of g k n
unfolding all_of
all_same f g same k zero = refl
all_same f g same k (suc n) =
    ap₂ (λ (c : Bool) (l : List ℕ). cond c (k ∷ l) l) (same k) (all_same f g same (suc k) n)

any_same : (f g : ℕ → Entry → Bool) → ((i : ℕ) (e : Entry) → f i e ≡ g i e) → (k : ℕ) (es : List Entry) → any_from f k es ≡ any_from g k es
unfolding any_from
any_same f g same k [] = refl
any_same f g same k (e ∷ es) = ap₂ (λ (p q : Bool). p || q) (same k e) (any_same f g same (suc k) es)

-- ---- one table

not-true : (c : Bool) → not c ≡ true → c ≡ false
not-true true h = let z : ◌≡◌ {A = ℕ} 0 1 = cc in absurd (omega arith)
not-true false h = refl

module _ (now : ℕ) (store : List ℕ) (b : Browser) (es : List Entry) where
  abbrev shown : ℕ → Bool
  shown i = is_shown now store b i (get_or es i blank)

  -- a listed slot is shown, and no lower one shows its target
  listed-parts : (i : ℕ) → is_listed now store b es i ≡ true
      → (is_shown now store b i (get_or es i blank) ≡ true) × (any_from (shows_too now store b i (get_or es i blank)) 0 (take i es) ≡ false)
  unfolding is_listed
  listed-parts i h =
      let p = (both (is_shown now store b i (get_or es i blank)) (not (any_from (shows_too now store b i (get_or es i blank)) 0 (take i es)))).0 h in
      (p.0, not-true _ p.1)

  -- a shown slot is listed, or a lower one shows its target
  listed-or : (j : ℕ) → j < length es → is_shown now store b j (get_or es j blank) ≡ true
      → (is_listed now store b es j ≡ true) ⊎ ((m : ℕ) × ((m < j) × ((is_shown now store b m (get_or es m blank) ≡ true)
      × (same_name (target_at store es m) (target_at store es j) ≡ true))))
  unfolding is_listed shows_too
  listed-or j l s = go (any_from (shows_too now store b j (get_or es j blank)) 0 (take j es)) refl
    where
      go : (t : Bool) → any_from (shows_too now store b j (get_or es j blank)) 0 (take j es) ≡ t
          → ((is_shown now store b j (get_or es j blank) && not (any_from (shows_too now store b j (get_or es j blank)) 0 (take j es))) ≡ true)
          ⊎ ((m : ℕ) × ((m < j) × ((is_shown now store b m (get_or es m blank) ≡ true) × (same_name (target_at store es m) (target_at store es j) ≡ true))))
      go true e =
          let r = any_some (shows_too now store b j (get_or es j blank)) 0 (take j es) e in
          let long : length (take j es) ≡ j = length-take-le j es (omega arith) in
          let less : r.0 < j = omega (arith, r.1.0) in
          let at : 0 + r.0 ≡ r.0 = omega arith in
          let held : get_or (take j es) r.0 blank ≡ get_or es r.0 blank = get_or-take j es r.0 blank less in
          let t : shows_too now store b j (get_or es j blank) r.0 (get_or es r.0 blank) ≡ true =
          ap₂ (λ (k : ℕ) (d : Entry). shows_too now store b j (get_or es j blank) k d) (sym at) (sym held) ∙ r.1.1 in
          let p = (both (is_shown now store b r.0 (get_or es r.0 blank)) (same_name (target_at store es r.0) (target_at store es j))).0 t in
          inr (r.0, (less, (p.0, p.1)))
      go false e = inl (ap₂ (λ (p q : Bool). p && not q) s e)

  abbrev L : List ℕ
  L = list_in now store b es

  in_list_lem : (i : ℕ) → i < length es → is_listed now store b es i ≡ true → Among i (list_in now store b es)
  unfolding list_in
  in_list_lem i l t = all_among (is_listed now store b es) 0 (length es) i (omega arith) (omega arith) t

  of_list : (i : ℕ) → Among i (list_in now store b es) → (i < length es) × (is_listed now store b es i ≡ true)
  unfolding list_in
  of_list i a = let r = all_sound (is_listed now store b es) 0 (length es) i a in (omega (arith, r.1.0), r.1.1)

  -- by going down to the lowest
  below : (n j : ℕ) → j < n → j < length es → is_shown now store b j (get_or es j blank) ≡ true → Lists now store b es j
  below zero j h l s = absurd (omega arith)
  below (suc n) j h l s = ⊎_elim (λ t. record { slot = j; among = in_list_lem j l t; low = omega arith; same = same_refl (target_at store es j) })
      (λ r. lower r (below n r.0 (omega (arith, r.1.0)) (omega (arith, r.1.0)) r.1.1.0)) (listed-or j l s)
    where
      lower : (r : (m : ℕ) × ((m < j) × ((is_shown now store b m (get_or es m blank) ≡ true) × (same_name (target_at store es m) (target_at store es j) ≡ true))))
          → Lists now store b es r.0 → Lists now store b es j
      lower r f = record {
        slot = f.slot;
        among = f.among;
        low = let x = f.low in let y = r.1.0 in omega arith;
        same = same_trans (target_at store es f.slot) (target_at store es r.0) (target_at store es j) f.same r.1.1.1;
      }

  -- two slots with one target are not both listed
  apart : (i j : ℕ) → i < j → Among i (list_in now store b es) → Among j (list_in now store b es) → same_name (target_at store es i) (target_at store es j)
      ≡ true → ⊥
  unfolding shows_too
  apart i j less a c same =
      let x = of_list i a in
      let y = of_list j c in
      let p = listed-parts i x.1 in
      let q = listed-parts j y.1 in
      let jl = y.0 in
      let long : length (take j es) ≡ j = length-take-le j es (omega arith) in
      let held : get_or (take j es) i blank ≡ get_or es i blank = get_or-take j es i blank less in
      let t : (is_shown now store b i (get_or es i blank) && same_name (target_at store es i) (target_at store es j))
      ≡ true = ap₂ (λ (u v : Bool). u && v) p.0 same in
      let s : shows_too now store b j (get_or es j blank) (0 + i) (get_or (take j es) i blank) ≡ true =
      (let at : 0 + i ≡ i = omega arith in ap₂ (λ (k : ℕ) (d : Entry). shows_too now store b j (get_or es j blank) k d) at held) ∙ t in
      let any = any_at (shows_too now store b j (get_or es j blank)) 0 i (take j es) (omega arith) s in
      let z : ◌≡◌ {A = Bool} true false = sym any ∙ q.1 in
      let w : ◌≡◌ {A = ℕ} 0 1 = cc in omega arith

  pub shows : Shows now store b es
  unfolding list_in
  shows = record {
    sound = λ i a. ((of_list i a).0, (listed-parts i (of_list i a).1).0);
    complete = λ j l s. below (suc j) j (omega arith) l s;
    once = λ i j a c same. go i j a c same (ltb i j) refl (ltb j i) refl;
    ordered = subst (λ (n : ℕ). Rising 0 n (all_of (is_listed now store b es) 0 (length es))) zero-first (all-rising (is_listed now store b es) 0 (length es));
  }
    where
      zero-first : 0 + length es ≡ length es
      zero-first = omega arith

      go : (i j : ℕ) → Among i (list_in now store b es) → Among j (list_in now store b es) → same_name (target_at store es i) (target_at store es j) ≡ true
          → (s : Bool) → ltb i j ≡ s → (t : Bool) → ltb j i ≡ t → i ≡ j
      go i j a c same true e t f = absurd (apart i j (ltb-true i j e) a c same)
      go i j a c same false e true f = absurd (apart j i (ltb-true j i f) c a (same_sym (target_at store es i) (target_at store es j) same))
      go i j a c same false e false f = let x = ltb-false i j e in let y = ltb-false j i f in omega arith

-- ---- after a run

-- the list depends on the name alone
module _ (now : ℕ) (store : List ℕ) (a b : Browser) (named : service_name a ≡ service_name b) (es : List Entry) where
  shown-same : (i : ℕ) (e : Entry) → is_shown now store a i e ≡ is_shown now store b i e
  unfolding is_shown
  shown-same i e = ap (λ (n : List ℕ). live_of now store n 12 i e && is_name (rdata_held store i e)) named

  listed_same : (i : ℕ) → is_listed now store a es i ≡ is_listed now store b es i
  unfolding is_listed shows_too
  listed_same i =
      ap₂ (λ (p q : Bool). p && not q) (shown-same i (get_or es i blank))
      (any_same (shows_too now store a i (get_or es i blank)) (shows_too now store b i (get_or es i blank)) too 0 (take i es))
    where
      too : (j : ℕ) (d : Entry) → shows_too now store a i (get_or es i blank) j d ≡ shows_too now store b i (get_or es i blank) j d
      too j d = ap (λ (c : Bool). c && same_name (rdata_held store j d) (rdata_held store i (get_or es i blank))) (shown-same j d)

  list_same : list_in now store a es ≡ list_in now store b es
  unfolding list_in
  list_same = all_same (is_listed now store a es) (is_listed now store b es) listed_same 0 (length es)

-- a tick keeps the name
resumed-name : (b : Browser) (now : ℕ) (owed : Option ℕ) → service_name (resumed b now owed) ≡ service_name b
unfolding service_name resumed
resumed-name b now owed = refl

asked-name : (b : Browser) (now : ℕ) (owed : Option ℕ) → service_name (asked b now owed) ≡ service_name b
unfolding service_name asked
asked-name b now owed = refl

turn_name : (now : ℕ) (store : List ℕ) (b : Browser) (es : List Entry) → service_name (turn_of now store b es).browser ≡ service_name b
unfolding turn_of
turn_name now store b es = go (known_owed now store b es b.owed)
  where
    kept : (owed : Option ℕ) → service_name (resumed b now owed) ≡ service_name b
    kept owed = resumed-name b now owed

    go : (l : List ℕ) → service_name (turn_with now store b es l).browser ≡ service_name b
    go (i ∷ is) = kept (stop_for now store es [] (i ∷ is))
    go [] = split (query_due now store b es)
      where
        split : (c : Bool) → service_name (cond {A = Turn} c
            (record {
              packet = packet_for now store es (asking b) (known_from now store b es 0);
              browser = asked b now
                  (stop_for now store es (asking b) (known_from now store b es 0));
            })
            (record { packet = []; browser = resumed b now None })).browser ≡ service_name b
        split true = asked-name b now (stop_for now store es (asking b) (known_from now store b es 0))
        split false = resumed-name b now None

tick-name : (b : Browser) (now : ℕ) (es : List Entry) (store : List ℕ) (room : ℕ) → service_name (tick_of b now es store room).browser ≡ service_name b
unfolding tick_of
tick-name b now es store room = go (eqb (tick_refusal b now es store room) 0)
  where
    go : (c : Bool) → service_name (cond c (turn_of now store b es).browser b) ≡ service_name b
    go true = turn_name now store b es
    go false = refl

run-name : (s : State) (run : List Event) → service_name (after_all s run).browser ≡ service_name s.browser
run-name s [] = refl
run-name s (packet now port p ∷ run) = run-name (after s (packet now port p)) run
run-name s (tick now room ∷ run) = run-name (after s (tick now room)) run ∙ tick-name s.browser now s.entries s.store room

pub list_exact : ListExact
list_exact s run now =
    let t : State = after_all s run in
    (shows now t.store s.browser t.entries, list_same now t.store t.browser s.browser (run-name s run) t.entries)
