-- The refusals of a tick, of a list and of the next due time, from that of the table's entries; and what is known where there is none. Assumes nothing.
use Rattle.std.proofs.Common.{Option}
use Rattle.std.specs.Prelude.{Result, Ok, Err}
use mathlib.Core.Path.{◌≡◌, refl, sym, ap, ◌∙◌}
use mathlib.Core.Bool.{Bool, true, false, cond, not, ◌||◌}
use mathlib.Core.List.{List}
use Prim.Native.Nat.{ℕ, ◌*◌, ◌≤◌}
use native.Mathlib.Omega.{arith}
use lib.ListN.{length}
use lib.Dec.{ltb, eqb}
use borrow.Author.Tests.{ltb-false, eqb-true}
use mathlib.Mathlib.Data.Bool.Basic.{or-eq-false-eq-eq-false-and-eq-false as neither, and-eq-true-eq-eq-true-and-eq-true as both}
use Rattle.wire.specs.refusals.Numbers.{number_in, refused_by}
use Rattle.wire.specs.declared.refusals.Refusal.{Refusal}
use Rattle.wire.specs.declared.refusals.Refusal.TheVariants as cause
use Rattle.wire.proofs.refusals.Tests.{number_by}
use Rattle.claims.specs.Time.{last_time, last_kept}
use Rattle.cache.specs.declared.entries.Entry.{Entry}
use Rattle.cache.specs.entries.Cache.{is_size, is_store_of, bad_time, bad_table, bad_store, entries_refusal}
use Rattle.cache.proofs.lookup.Refusing.{size_most}
use Rattle.browser.specs.declared.Browser.{Browser}
use Rattle.browser.specs.service.Service.{right_labels}
use Rattle.browser.specs.service.Sound.{Sound}
use Rattle.browser.specs.list.Listing.{listed_from}
use Rattle.browser.specs.refresh.Refresh.{next_query}
use Rattle.browser.specs.Calls.{wrong_time, wrong_draws, wrong_browser, tick_tests, tick_refusal, look_tests, look_refusal, or_refused, next_due, due_of, list_of}
use Rattle.browser.specs.Steps.{tick_tests_with, look_tests_with, tick_refusal_with, due_with}

-- four tests in order
abbrev chain : Bool → Bool → Bool → Bool → ℕ
chain p q r s = cond p 1 (cond q 3 (cond r 8 (cond s 7 0)))

passed : (p q r s : Bool) → chain p q r s ≡ 0 → (p ≡ false) × ((q ≡ false) × ((r ≡ false) × (s ≡ false)))
passed true q r s e = absurd (omega arith)
passed false true r s e = absurd (omega arith)
passed false false true s e = absurd (omega arith)
passed false false false true e = absurd (omega arith)
passed false false false false e = (refl, (refl, (refl, refl)))

module _ (b : Browser) (now : ℕ) (es : List Entry) (store : List ℕ) (room : ℕ) where
  pub tick-result : refused_by (tick_tests_with (entries_refusal now es) (length es) (length store) b now room) ≡ refused_by (tick_tests b now es store room)
  unfolding tick_tests_with entries_refusal
  tick-result = go (wrong_time b now) (bad_time now es) (bad_table es)
    where
      rest : Bool → Result (Unit {0}) Refusal
      rest t = cond (ltb room 1452) (Err cause.Buffer) (cond t (Err cause.Table) (cond (wrong_browser b) (Err cause.Setup) (Ok tt)))

      go : (w x y : Bool) → let e : ℕ = cond x 1 (cond y 8 0) in
          cond (w || eqb e 1) (Err cause.Time) (rest (not (eqb e 0) || bad_store es store)) ≡ cond (w || x) (Err cause.Time) (rest (y || bad_store es store))
      go true x y = refl
      go false true y = refl
      go false false true = refl
      go false false false = refl

  pub tick-number : tick_refusal_with (entries_refusal now es) (length es) (length store) b now room ≡ tick_refusal b now es store room
  unfolding tick_refusal_with tick_refusal
  tick-number =
      sym (number_by (tick_tests_with (entries_refusal now es) (length es) (length store) b now room))
      ∙ ap number_in tick-result ∙ number_by (tick_tests b now es store room)

-- what a call that is not refused has passed
pub record Passed (b : Browser) (now : ℕ) (es : List Entry) (store : List ℕ) (room : ℕ) : Type 0 where
  pub sound : Sound b
  pub space : 1452 ≤ room
  pub size : length es ≤ 512
  pub slots : is_store_of (length es) (length store) ≡ true
  pub entries : entries_refusal now es ≡ 0
  pub early : now ≤ last_time
  pub after : b.last ≤ now

not-true : (c : Bool) → not c ≡ false → c ≡ true
not-true true e = refl
not-true false e = let z : ◌≡◌ {A = ℕ} 0 1 = cc in absurd (omega arith)

module _ (b : Browser) (now : ℕ) (es : List Entry) (store : List ℕ) (room : ℕ)
    (ok : tick_refusal_with (entries_refusal now es) (length es) (length store) b now room ≡ 0) where
  tests : ((wrong_time b now || eqb (entries_refusal now es) 1) ≡ false) × ((ltb room 1452 ≡ false)
      × (((not (eqb (entries_refusal now es) 0) || not (is_store_of (length es) (length store))) ≡ false) × (wrong_browser b ≡ false)))
  unfolding tick_refusal_with tick_tests_with
  tests =
      passed (wrong_time b now || eqb (entries_refusal now es) 1) (ltb room 1452)
      (not (eqb (entries_refusal now es) 0) || not (is_store_of (length es) (length store))) (wrong_browser b) ok

  stored : is_store_of (length es) (length store) ≡ true
  stored = not-true _ ((neither (not (eqb (entries_refusal now es) 0)) (not (is_store_of (length es) (length store)))).0 tests.1.1.0).1

  none : entries_refusal now es ≡ 0
  none = eqb-true _ 0 (not-true _ ((neither (not (eqb (entries_refusal now es) 0)) (not (is_store_of (length es) (length store)))).0 tests.1.1.0).0)

  timed : wrong_time b now ≡ false
  timed = ((neither (wrong_time b now) (eqb (entries_refusal now es) 1)).0 tests.0).0

  labels : right_labels b.service b.protocol b.domain ≡ true
  unfolding wrong_browser
  labels = not-true _ ((neither (not (right_labels b.service b.protocol b.domain)) (wrong_draws b.draw b.refresh)).0 tests.1.1.1).0

  draws : wrong_draws b.draw b.refresh ≡ false
  unfolding wrong_browser
  draws = ((neither (not (right_labels b.service b.protocol b.domain)) (wrong_draws b.draw b.refresh)).0 tests.1.1.1).1

  sized : is_size (length es) ≡ true
  unfolding is_store_of
  sized = ((both (is_size (length es)) (eqb (length store) (1024 * length es))).0 stored).0

  pub tick-passed : Passed b now es store room
  unfolding wrong_time wrong_draws
  tick-passed =
      let d = (neither (ltb b.draw 20 || ltb 120 b.draw) (ltb 20 b.refresh)).0 draws in
      let l = (neither (ltb b.draw 20) (ltb 120 b.draw)).0 d.0 in
      let t = (neither (ltb last_time now) (ltb now b.last || (ltb last_kept b.last || (ltb last_kept b.series || ltb last_kept b.query)))).0 timed in
      let u = (neither (ltb now b.last) (ltb last_kept b.last || (ltb last_kept b.series || ltb last_kept b.query))).0 t.1 in
      let v = (neither (ltb last_kept b.last) (ltb last_kept b.series || ltb last_kept b.query)).0 u.1 in
      let x = (neither (ltb last_kept b.series) (ltb last_kept b.query)).0 v.1 in record {
        sound = record {
          labels = labels;
          draw = ltb-false 120 b.draw l.1;
          refresh = ltb-false 20 b.refresh d.1;
          series = ltb-false last_kept b.series x.0;
        };
        space = ltb-false room 1452 tests.1.0;
        size = size_most (length es) sized;
        slots = stored;
        entries = none;
        early = ltb-false last_time now t.0;
        after = ltb-false now b.last u.0;
      }

-- the number of tests of which none refuses
module _ (b : Browser) (now : ℕ) (es : List Entry) (store : List ℕ) (room : ℕ) {u : Result (Unit {0}) Refusal}
    (is : u ≡ refused_by (tick_tests_with (entries_refusal now es) (length es) (length store) b now room)) {x : Unit {0}} (ok : u ≡ Ok x) where
  pub tick-none : tick_refusal_with (entries_refusal now es) (length es) (length store) b now room ≡ 0
  unfolding tick_refusal_with
  tick-none = sym (number_by (tick_tests_with (entries_refusal now es) (length es) (length store) b now room)) ∙ ap number_in (sym is ∙ ok)

  pub tick-taken : Passed b now es store room
  tick-taken = tick-passed b now es store room tick-none

-- ---- the next due time and the list

-- what is asked for where nothing refuses has the number of what refuses
given : {A : Type 0} (u : Result (Unit {0}) Refusal) (x : A) → number_in (or_refused u x) ≡ number_in u
given (Ok v) x = refl
given (Err refusal) x = refl

module _ (b : Browser) (now : ℕ) (es : List Entry) (store : List ℕ) where
  pub due-number : number_in (due_of b now es store) ≡ look_refusal b now es store
  unfolding due_of look_refusal
  due-number = given _ _ ∙ number_by (look_tests b now es store)

  pub list-number : (from : ℕ) → number_in (list_of b now es store from) ≡ look_refusal b now es store
  unfolding list_of look_refusal
  list-number from = given _ _ ∙ number_by (look_tests b now es store)

module _ (b : Browser) (now : ℕ) (es : List Entry) (store : List ℕ) {u : Result (Unit {0}) Refusal}
    (is : u ≡ refused_by (look_tests_with (entries_refusal now es) (length es) (length store) b now)) where
  -- with no buffer: as with one that is large enough
  look-result : u ≡ refused_by (look_tests b now es store)
  unfolding look_tests_with
  look-result = is ∙ tick-result b now es store 1452

  pub look-taken : {x : Unit {0}} → u ≡ Ok x → Passed b now es store 1452
  unfolding look_tests_with
  look-taken ok = tick-taken b now es store 1452 is ok

  pub due-refused : {refusal : Refusal} → u ≡ Err refusal → ◌≡◌ {A = Result ℕ Refusal} (Err refusal) (due_of b now es store)
  unfolding due_of
  due-refused e = ap (λ (r : Result (Unit {0}) Refusal). or_refused r (next_due now store b es)) (sym e ∙ look-result)

  pub due-given : {x : Unit {0}} → u ≡ Ok x → ◌≡◌ {A = Result ℕ Refusal} (Ok (due_with b now (next_query now store b es))) (due_of b now es store)
  unfolding due_of next_due
  due-given e = ap (λ (r : Result (Unit {0}) Refusal). or_refused r (due_with b now (next_query now store b es))) (sym e ∙ look-result)

  pub list_refused : (from : ℕ) {refusal : Refusal} → u ≡ Err refusal → ◌≡◌ {A = Result (Option ℕ) Refusal} (Err refusal) (list_of b now es store from)
  unfolding list_of
  list_refused from e = ap (λ (r : Result (Unit {0}) Refusal). or_refused r (listed_from now store b es from)) (sym e ∙ look-result)

  -- the answer from what was found
  pub list_given : (from : ℕ) {x : Unit {0}} → u ≡ Ok x → (s : Option ℕ) → listed_from now store b es from ≡ s
      → ◌≡◌ {A = Result (Option ℕ) Refusal} (Ok s) (list_of b now es store from)
  unfolding list_of
  list_given from e s found = ap Ok (sym found) ∙ ap (λ (r : Result (Unit {0}) Refusal). or_refused r (listed_from now store b es from)) (sym e ∙ look-result)
