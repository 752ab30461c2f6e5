-- What a line makes of the console's browser and of its out buffer: `browse` puts another browser in its place, `ask` lets it tick on the table over the first
-- bytes of the buffer, and every other line leaves both. Assumes nothing: these are definitions.
use Rattle.std.specs.Prelude.{ℕ, List, cond, ◌&&◌, length, replicate, leb, eqb}
use Rattle.browser.specs.Calls.{start_of, tick_of, ticked_packet}
use Rattle.capi_browser.specs.Numbers.{browser_of, started_numbers, ticked_numbers}
use Rattle.capi_browser.specs.Labels.{service_of, exactly}
use Rattle.capi_browser.specs.declared.BrowserNumbers.{BrowserNumbers}
use Rattle.capi_browser.specs.declared.StartedNumbers.{StartedNumbers}
use Rattle.console_table.specs.Table.{lent_entries, lent_bytes}
use Rattle.console_table.specs.declared.Table.{Table}
use Rattle.console_text.specs.fields.Numbers.{number_at}
use Rattle.console_text.specs.fields.Forms.{is_word, bytes_in}
use Rattle.console_responder.specs.Forms.{is_tick, lent_by}
use Rattle.console_responder.specs.Lines.{lent_over}
use Rattle.console_browser.specs.Forms.{browse_word, ask_word, is_browse}

-- the browser, and the out buffer
pub record Browsing : Type 0 where
  pub browser : BrowserNumbers
  pub out : List ℕ

abbrev pub browsing : BrowserNumbers → List ℕ → Browsing
browsing b out = record { browser = b; out = out }

-- before the first `browse`: all zeros, which every tick refuses
abbrev pub unbrowsed : BrowserNumbers
unbrowsed = record {
  service = replicate 16 0;
  protocol = replicate 4 0;
  domain = replicate 5 0;
  len = 0;
  draw = 0;
  refresh = 0;
  series = 0;
  count = 0;
  query = 0;
  owed = 0;
  last = 0;
}

-- what a line of `browse` starts: a label has at most 20,000 bytes, as many as the longest line spells
unfoldable pub start_told : List ℕ → StartedNumbers
start_told line =
    started_numbers (start_of (service_of (bytes_in 20000 line 4)) (exactly 4 (bytes_in 20000 line 5)) (exactly 5 (bytes_in 20000 line 6))
    (number_at line 1) (number_at line 2) (number_at line 3))

-- an accepted start replaces the browser, a refused one changes nothing
abbrev pub begun_or : BrowserNumbers → StartedNumbers → BrowserNumbers
begun_or b r = cond (eqb r.refusal 0) r.browser b

unfoldable pub after_browse : List ℕ → BrowserNumbers → BrowserNumbers
after_browse line b = cond (is_browse line) (begun_or b (start_told line)) b

-- a tick on what is lent of the table and the store, over the first `n` bytes of the out buffer
unfoldable pub asked : Table → List ℕ → ℕ → ℕ → Browsing → Browsing
asked t store time n x = record {
  browser = (ticked_numbers (tick_of (browser_of x.browser) time (lent_entries t) (lent_bytes t store) n)).browser;
  out = lent_over n (ticked_packet (browser_of x.browser) time (lent_entries t) (lent_bytes t store) n) x.out;
}

-- A line that would lend more than there is changes nothing.
unfoldable pub after_ask : List ℕ → Table → List ℕ → Browsing → Browsing
after_ask line t store x = cond (is_tick line && leb (lent_by line 2) (length x.out)) (asked t store (number_at line 1) (lent_by line 2) x) x

-- the browser after a line, by its first word
unfoldable pub browser_after : List ℕ → Table → List ℕ → Browsing → Browsing
browser_after line t store x =
    cond (is_word browse_word line) (browsing (after_browse line x.browser) x.out) (cond (is_word ask_word line) (after_ask line t store x) x)
