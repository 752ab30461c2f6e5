-- What the covered functions give, from what they have called and tested. Assumes nothing.
use Rattle.std.proofs.Common.{None, Option, Some}
use Prim.Native.Nat.{ℕ, ◌-◌}
use mathlib.Core.Path.{◌≡◌, sym, ap, ap₂, ◌∙◌}
use mathlib.Core.List.{List}
use lib.ListN.{length, replicate}
use lib.Seq.{sets}
use borrow.Author.Tests.{eq-eqb, ne_eqb}
use Rattle.own.specs.declared.records.Service.{Service}
use Rattle.browser.specs.declared.Browser.{Browser}
use Rattle.browser.specs.declared.Started.{Started}
use Rattle.browser.specs.declared.Ticked.{Ticked}
use Rattle.browser.specs.Calls.{refusal_of, length_of, start_of}
use Rattle.capi_browser.specs.declared.BrowserNumbers.{BrowserNumbers}
use Rattle.capi_browser.specs.declared.StartedNumbers.{StartedNumbers}
use Rattle.capi_browser.specs.declared.TickedNumbers.{TickedNumbers}
use Rattle.capi_browser.specs.Numbers.{owed_of, owed_number, browser_of, numbers_of, started_numbers, ticked_numbers}
use Rattle.capi_browser.specs.Labels.{service_of, exactly}

-- ---- what is owed
pub owed_none : (n : ℕ) → n ≡ 0 → None ≡ owed_of n
unfolding owed_of
owed_none n z = sym (simp (eq-eqb _ _ z))

pub owed_some : (n : ℕ) → (n ≡ 0 → ⊥) → Some (n - 1) ≡ owed_of n
unfolding owed_of
owed_some n z = sym (simp (ne_eqb _ _ z))

-- ---- a browser, and its numbers
pub browser_is : (b : BrowserNumbers) (owed : Option ℕ) → owed ≡ owed_of b.owed
    → ◌≡◌ {A = Browser} (record { service = record { bytes = b.service; len = b.len }; protocol = b.protocol; domain = b.domain; draw = b.draw; refresh = b.refresh; series = b.series; count = b.count; query = b.query; owed = owed; last = b.last }) (browser_of b)
unfolding browser_of
browser_is b owed is = ap (λ (s : Option ℕ). record { service = record { bytes = b.service; len = b.len }; protocol = b.protocol; domain = b.domain; draw = b.draw; refresh = b.refresh; series = b.series; count = b.count; query = b.query; owed = s; last = b.last }) is

pub numbers-are : (b : Browser) (n : ℕ) → n ≡ owed_number b.owed
    → ◌≡◌ {A = BrowserNumbers} (record { service = b.service.bytes; protocol = b.protocol; domain = b.domain; len = b.service.len; draw = b.draw; refresh = b.refresh; series = b.series; count = b.count; query = b.query; owed = n; last = b.last }) (numbers_of b)
unfolding numbers_of
numbers-are b n is = ap (λ (k : ℕ). record { service = b.service.bytes; protocol = b.protocol; domain = b.domain; len = b.service.len; draw = b.draw; refresh = b.refresh; series = b.series; count = b.count; query = b.query; owed = k; last = b.last }) is

-- ---- the answers
pub started-are : (r : Started) (n : ℕ) (b : BrowserNumbers) → n ≡ refusal_of r.answer → b ≡ numbers_of r.browser
    → ◌≡◌ {A = StartedNumbers} (record { refusal = n; browser = b }) (started_numbers r)
unfolding started_numbers
started-are r n b x y = ap₂ (λ (k : ℕ) (s : BrowserNumbers). record { refusal = k; browser = s }) x y

pub ticked-are : (r : Ticked) (n l : ℕ) (b : BrowserNumbers) → n ≡ refusal_of r.answer → l ≡ length_of r.answer → b ≡ numbers_of r.browser
    → ◌≡◌ {A = TickedNumbers} (record { refusal = n; more = r.more; length = l; browser = b }) (ticked_numbers r)
unfolding ticked_numbers
ticked-are r n l b x y z =
    ap₂ (λ (k m : ℕ). record { refusal = k; more = r.more; length = m; browser = b }) x y
    ∙ ap (λ (s : BrowserNumbers). record { refusal = refusal_of r.answer; more = r.more; length = length_of r.answer; browser = s }) z

-- ---- labels
pub service-laid : (label bytes : List ℕ) → bytes ≡ sets (replicate 16 0) 0 label → ◌≡◌ {A = Service} (record { bytes = bytes; len = length label }) (service_of label)
unfolding service_of
service-laid label bytes is = ap (λ (l : List ℕ). record { bytes = l; len = length label }) is

pub exactly-not : (n : ℕ) (label : List ℕ) → (length label ≡ n → ⊥) → replicate n 0 ≡ exactly n label
unfolding exactly
exactly-not n label z = sym (simp (ne_eqb _ _ z))

pub exactly-laid : (n : ℕ) (label bytes : List ℕ) → length label ≡ n → bytes ≡ sets (replicate n 0) 0 label → bytes ≡ exactly n label
unfolding exactly
exactly-laid n label bytes e is = is ∙ sym (simp (eq-eqb _ _ e))

-- ---- a start
pub begun-are : (service protocol domain : List ℕ) (time draw refresh : ℕ) (s : Service) (p d : List ℕ) (r : Started) (n : StartedNumbers) → s ≡ service_of service → p ≡ exactly 4 protocol → d ≡ exactly 5 domain
    → r ≡ start_of s p d time draw refresh → n ≡ started_numbers r → n ≡ started_numbers (start_of (service_of service) (exactly 4 protocol) (exactly 5 domain) time draw refresh)
begun-are service protocol domain time draw refresh s p d r n si pi di ri ni =
    ni ∙ ap started_numbers (ri ∙ ap (λ (x : Service). start_of x p d time draw refresh) si
    ∙ ap₂ (λ (x y : List ℕ). start_of (service_of service) x y time draw refresh) pi di)
