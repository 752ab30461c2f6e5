-- A browser's state and the answers of its calls in numbers, for callers in other languages. Assumes nothing: these are definitions.
use Rattle.std.specs.Prelude.{ℕ, ◌+◌, ◌-◌, true, false, cond, eqb, Option, Some, None, Result, Ok, Err}
use Rattle.wire.specs.refusals.Numbers.{number_of}
use Rattle.wire.specs.declared.refusals.Refusal.{Refusal}
use Rattle.browser.specs.declared.Browser.{Browser}
use Rattle.browser.specs.declared.Started.{Started}
use Rattle.browser.specs.declared.Ticked.{Ticked}
use Rattle.browser.specs.Calls.{refusal_of, length_of}
use Rattle.capi_browser.specs.declared.BrowserNumbers.{BrowserNumbers}
use Rattle.capi_browser.specs.declared.StartedNumbers.{StartedNumbers}
use Rattle.capi_browser.specs.declared.TickedNumbers.{TickedNumbers}
use Rattle.capi_browser.specs.declared.ListedNumbers.{ListedNumbers}
use Rattle.capi_browser.specs.declared.DueNumbers.{DueNumbers}

-- the slot from which on known answers are owed: 0 for none, and else the slot plus 1. The greatest number of a slot, which no table has, stays.
unfoldable pub owed_of : ℕ → Option ℕ
owed_of n = cond (eqb n 0) None (Some (n - 1))

abbrev pub owed_number : Option ℕ → ℕ
owed_number (Some i) = cond (eqb i 18446744073709551615) i (i + 1)
owed_number None = 0

-- a browser of its numbers, and its numbers
unfoldable pub browser_of : BrowserNumbers → Browser
browser_of b = record {
  service = record { bytes = b.service; len = b.len };
  protocol = b.protocol;
  domain = b.domain;
  draw = b.draw;
  refresh = b.refresh;
  series = b.series;
  count = b.count;
  query = b.query;
  owed = owed_of b.owed;
  last = b.last;
}

unfoldable pub numbers_of : Browser → BrowserNumbers
numbers_of b = record {
  service = b.service.bytes;
  protocol = b.protocol;
  domain = b.domain;
  len = b.service.len;
  draw = b.draw;
  refresh = b.refresh;
  series = b.series;
  count = b.count;
  query = b.query;
  owed = owed_number b.owed;
  last = b.last;
}

-- the answers
unfoldable pub started_numbers : Started → StartedNumbers
started_numbers r = record { refusal = refusal_of r.answer; browser = numbers_of r.browser }

unfoldable pub ticked_numbers : Ticked → TickedNumbers
ticked_numbers r = record { refusal = refusal_of r.answer; more = r.more; length = length_of r.answer; browser = numbers_of r.browser }

abbrev pub listed_with : ℕ → Option ℕ → ListedNumbers
listed_with refusal (Some i) = record { refusal = refusal; found = true; slot = i }
listed_with refusal None = record { refusal = refusal; found = false; slot = 0 }

abbrev pub listed_numbers : Result (Option ℕ) Refusal → ListedNumbers
listed_numbers (Ok s) = listed_with 0 s
listed_numbers (Err refusal) = listed_with (number_of refusal) None

abbrev pub due_numbers : Result ℕ Refusal → DueNumbers
due_numbers (Ok time) = record { refusal = 0; time = time }
due_numbers (Err refusal) = record { refusal = number_of refusal; time = 0 }
