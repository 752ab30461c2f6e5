-- What a start gives, and the browser after a query. Assumes nothing.
use Rattle.std.proofs.Common.{None, Option}
use Rattle.std.specs.Prelude.{Result, Ok, Err}
use mathlib.Core.Path.{◌≡◌, sym, ap, ap₂, ◌∙◌}
use mathlib.Core.Bool.{Bool, true, false, cond}
use mathlib.Core.List.{List, []}
use Prim.Native.Nat.{ℕ, ◌≤◌, ◌<◌}
use native.Mathlib.Omega.{arith}
use lib.Dec.{leb, eqb}
use borrow.Author.Tests.{le-leb, lt-leb, ne_eqb}
use Rattle.wire.specs.refusals.Numbers.{number_of, number_in, refused_by}
use Rattle.wire.specs.declared.refusals.Refusal.{Refusal}
use Rattle.wire.proofs.refusals.Tests.{numbers_from-1, number_by}
use Rattle.own.specs.declared.records.Service.{Service}
use Rattle.browser.specs.declared.Browser.{Browser}
use Rattle.browser.specs.declared.Started.{Started}
use Rattle.browser.specs.declared.Answer.TheVariants.{Refused, Quiet}
use Rattle.browser.specs.series.Series.{series_at, counted}
use Rattle.browser.specs.Calls.{refusal_of, answer_for, blank, begun, start_tests, start_refusal, start_of, asked}

module _ (service : Service) (protocol domain : List ℕ) (time draw refresh : ℕ) {u : Result (Unit {0}) Refusal}
    (is : u ≡ refused_by (start_tests service protocol domain time draw refresh)) where
  abbrev Starts : Started → Type 0
  Starts r = (r ≡ start_of service protocol domain time draw refresh) × (refusal_of r.answer ≡ start_refusal service protocol domain time draw refresh)

  number : number_in u ≡ start_refusal service protocol domain time draw refresh
  unfolding start_refusal
  number = ap number_in is ∙ number_by (start_tests service protocol domain time draw refresh)

  -- the answer from the refusal, and the browser from its number
  abbrev shape : Result (Unit {0}) Refusal → ℕ → Started
  shape r n = record { answer = answer_for r []; browser = cond (eqb n 0) (begun service protocol domain time draw refresh) blank }

  started : (k : ℕ) → number_in u ≡ k → shape u k ≡ start_of service protocol domain time draw refresh
  unfolding start_of
  started k e = ap₂ shape is (sym e ∙ number)

  pub start-refused : {refusal : Refusal} → u ≡ Err refusal → (s : Browser) → s ≡ blank → Starts (record { answer = Refused refusal; browser = s })
  start-refused {refusal = refusal} e s empty =
      let none : eqb (number_of refusal) 0 ≡ false = ne_eqb (number_of refusal) 0 (λ z. let h = numbers_from-1 refusal in absurd (omega arith)) in (
        (λ i. record { answer = Refused refusal; browser = (empty ∙ sym (ap (λ (c : Bool). cond c (begun service protocol domain time draw refresh) blank) none)) i })
            ∙ ap (λ (r : Result (Unit {0}) Refusal). shape r (number_of refusal)) (sym e) ∙ started (number_of refusal) (ap number_in e),
        sym (ap number_in e) ∙ number,
      )

  pub starts : {x : Unit {0}} → u ≡ Ok x → Starts (record {
    answer = Quiet;
    browser = record {
      service = service;
      protocol = protocol;
      domain = domain;
      draw = draw;
      refresh = refresh;
      series = time;
      count = 0;
      query = time;
      owed = None;
      last = time;
    };
  })
  unfolding begun
  starts e = (ap (λ (r : Result (Unit {0}) Refusal). shape r 0) (sym e) ∙ started 0 (ap number_in e), sym (ap number_in e) ∙ number)

module _ (b : Browser) (now : ℕ) (owed : Option ℕ) (at : ℕ) (is : at ≡ series_at b) where
  pub asked-refresh : now < at → record {
    service = b.service;
    protocol = b.protocol;
    domain = b.domain;
    draw = b.draw;
    refresh = b.refresh;
    series = b.series;
    count = b.count;
    query = now;
    owed = owed;
    last = now;
  } ≡ asked b now owed
  unfolding asked
  asked-refresh h = sym (ap (λ (k : ℕ). shape (leb k now)) (sym is) ∙ ap shape (lt-leb _ _ h))
    where
      shape : Bool → Browser
      shape t = record {
        service = b.service;
        protocol = b.protocol;
        domain = b.domain;
        draw = b.draw;
        refresh = b.refresh;
        series = cond t now b.series;
        count = cond t (counted b.count) b.count;
        query = now;
        owed = owed;
        last = now;
      }

  pub asked-series : at ≤ now → (k : ℕ) → k ≡ counted b.count → record {
    service = b.service;
    protocol = b.protocol;
    domain = b.domain;
    draw = b.draw;
    refresh = b.refresh;
    series = now;
    count = k;
    query = now;
    owed = owed;
    last = now;
  } ≡ asked b now owed
  unfolding asked
  asked-series h k ks = ap (shape true) ks ∙ sym (ap (λ (m : ℕ). shape (leb m now) (counted b.count)) (sym is)
      ∙ ap (λ (t : Bool). shape t (counted b.count)) (le-leb _ _ h))
    where
      shape : Bool → ℕ → Browser
      shape t m = record {
        service = b.service;
        protocol = b.protocol;
        domain = b.domain;
        draw = b.draw;
        refresh = b.refresh;
        series = cond t now b.series;
        count = cond t m b.count;
        query = now;
        owed = owed;
        last = now;
      }
