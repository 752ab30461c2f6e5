-- The calls of a browser: a start, a tick on a lent cache, the next due time, and the list: the answer, the state after the call and the packet that it sends.
-- Assumes nothing: these are definitions.
use Rattle.std.specs.Prelude.{ℕ, ◌≡◌, Bool, true, false, cond, not, ◌||◌, List, [], ◌∷◌, ltb, eqb, length, replicate, Option, Some, None, Result, Ok, Err}
use Rattle.wire.specs.refusals.Numbers.{number_of, first_refusal, refused_by}
use Rattle.wire.specs.declared.refusals.Refusal.{Refusal}
use Rattle.wire.specs.declared.refusals.Refusal.TheVariants.{Buffer, Draw, Setup, Table, Time}
use Rattle.claims.specs.Time.{last_time, last_kept}
use Rattle.own.specs.declared.records.Service.{Service}
use Rattle.writer.specs.own_packets.Own.{small_buffer, unless_refused, laid_over}
use Rattle.cache.specs.declared.entries.Entry.{Entry}
use Rattle.cache.specs.entries.Cache.{bad_time, bad_table, bad_store}
use Rattle.browser.specs.declared.Browser.{Browser}
use Rattle.browser.specs.declared.Answer.{Answer}
use Rattle.browser.specs.declared.Answer.TheVariants.{Refused, Quiet, Sent}
use Rattle.browser.specs.declared.Started.{Started}
use Rattle.browser.specs.declared.Ticked.{Ticked}
use Rattle.browser.specs.service.Service.{right_labels}
use Rattle.browser.specs.series.Series.{series_due, counted}
use Rattle.browser.specs.refresh.Refresh.{query_due, next_query}
use Rattle.browser.specs.known_answers.Known.{known_from, known_owed}
use Rattle.browser.specs.query.Query.{asking, packet_for, stop_for}
use Rattle.browser.specs.list.Listing.{listed_from}

-- The specification's values for each answer: the number of the refusal, 0 for none, and the length of the packet
abbrev pub refusal_of : Answer → ℕ
refusal_of (Refused refusal) = number_of refusal
refusal_of Quiet = 0
refusal_of (Sent n) = 0

abbrev pub length_of : Answer → ℕ
length_of (Refused refusal) = 0
length_of Quiet = 0
length_of (Sent n) = n

abbrev pub answer_with : ℕ → Answer
answer_with n = cond (eqb n 0) Quiet (Sent n)

-- "A refusal returns the number alone"
abbrev pub answer_for : Result (Unit {0}) Refusal → List ℕ → Answer
answer_for (Ok u) packet = answer_with (length packet)
answer_for (Err refusal) packet = Refused refusal

-- a refusal, or what a call that sends nothing is asked for
abbrev pub or_refused : {A : Type 0} → Result (Unit {0}) Refusal → A → Result A Refusal
or_refused (Ok u) asked_for = Ok asked_for
or_refused (Err refusal) asked_for = Err refusal

-- ---- refusals

-- 2: "a draw of 20..120 ms", "a second start draw of 0 to 20 thousandths"
unfoldable pub wrong_draws : ℕ → ℕ → Bool
wrong_draws draw refresh = (ltb draw 20 || ltb 120 draw) || ltb 20 refresh

-- 7: "Draws outside are refusal 2, kept ones 7", and the labels
unfoldable pub wrong_browser : Browser → Bool
wrong_browser b = not (right_labels b.service b.protocol b.domain) || wrong_draws b.draw b.refresh

-- 1: the time is above 2^62 or before the last call's, or a kept time is above 2^62 + 2,000
unfoldable pub wrong_time : Browser → ℕ → Bool
wrong_time b now =
    ltb last_time now || (ltb now b.last || (ltb last_kept b.last || (ltb last_kept b.series || ltb last_kept b.query)))

abbrev pub start_tests : Service → List ℕ → List ℕ → ℕ → ℕ → ℕ → List (Refusal × Bool)
start_tests service protocol domain time draw refresh =
    (Time, ltb last_time time) ∷ ((Draw, wrong_draws draw refresh) ∷ ((Setup, not (right_labels service protocol domain)) ∷ []))

unfoldable pub start_refusal : Service → List ℕ → List ℕ → ℕ → ℕ → ℕ → ℕ
start_refusal service protocol domain time draw refresh = first_refusal (start_tests service protocol domain time draw refresh)

-- 8: the table's size, an entry's lengths, or the store's size
abbrev pub wrong_table : List Entry → List ℕ → Bool
wrong_table es store = bad_table es || bad_store es store

-- "1 (.. before .. an entry's received time ..), 3, 8, 7"
abbrev pub tick_tests : Browser → ℕ → List Entry → List ℕ → ℕ → List (Refusal × Bool)
tick_tests b now es store room =
    (Time, wrong_time b now || bad_time now es) ∷ ((Buffer, small_buffer room) ∷ ((Table, wrong_table es store) ∷ ((Setup, wrong_browser b) ∷ [])))

unfoldable pub tick_refusal : Browser → ℕ → List Entry → List ℕ → ℕ → ℕ
tick_refusal b now es store room = first_refusal (tick_tests b now es store room)

-- of a list and of the next due time, which have no buffer: 1, 8, 7
abbrev pub look_tests : Browser → ℕ → List Entry → List ℕ → List (Refusal × Bool)
look_tests b now es store = (Time, wrong_time b now || bad_time now es) ∷ ((Table, wrong_table es store) ∷ ((Setup, wrong_browser b) ∷ []))

unfoldable pub look_refusal : Browser → ℕ → List Entry → List ℕ → ℕ
look_refusal b now es store = first_refusal (look_tests b now es store)

-- ---- a start

-- the state of a refused start, which every tick refuses with 7: no labels, no draws
unfoldable pub blank : Browser
blank = record {
  service = record { bytes = replicate 16 0; len = 0 };
  protocol = replicate 4 0;
  domain = replicate 5 0;
  draw = 0;
  refresh = 0;
  series = 0;
  count = 0;
  query = 0;
  owed = None;
  last = 0;
}

-- nothing was sent: the first query is due a draw after the start
unfoldable pub begun : Service → List ℕ → List ℕ → ℕ → ℕ → ℕ → Browser
begun service protocol domain time draw refresh = record {
  service = service;
  protocol = protocol;
  domain = domain;
  draw = draw;
  refresh = refresh;
  series = time;
  count = 0;
  query = time;
  owed = None;
  last = time;
}

unfoldable pub start_of : Service → List ℕ → List ℕ → ℕ → ℕ → ℕ → Started
start_of service protocol domain time draw refresh =
    let number : ℕ = start_refusal service protocol domain time draw refresh in record {
      answer = answer_for (refused_by (start_tests service protocol domain time draw refresh)) [];
      browser = cond (eqb number 0) (begun service protocol domain time draw refresh) blank;
    }

-- ---- a tick

-- something is owed
abbrev pub is_owed : Option ℕ → Bool
is_owed (Some i) = true
is_owed None = false

-- a step is due: a packet behind a truncated query, or a query
unfoldable pub is_due : ℕ → List ℕ → Browser → List Entry → Bool
is_due now store b es = is_owed b.owed || query_due now store b es

-- the state after a tick that sends no query; from some slot on known answers are owed then
unfoldable pub resumed : Browser → ℕ → Option ℕ → Browser
resumed b now owed = record {
  service = b.service;
  protocol = b.protocol;
  domain = b.domain;
  draw = b.draw;
  refresh = b.refresh;
  series = b.series;
  count = b.count;
  query = b.query;
  owed = owed;
  last = now;
}

-- after one that sends a query: of the series where one of it is due, else "the gaps unchanged"
unfoldable pub asked : Browser → ℕ → Option ℕ → Browser
asked b now owed = record {
  service = b.service;
  protocol = b.protocol;
  domain = b.domain;
  draw = b.draw;
  refresh = b.refresh;
  series = cond (series_due b now) now b.series;
  count = cond (series_due b now) (counted b.count) b.count;
  query = now;
  owed = owed;
  last = now;
}

-- what a tick makes of a browser: the packet, none where it has no bytes, and the state then
pub record Turn : Type 0 where
  pub packet : List ℕ
  pub browser : Browser

-- Known answers that are owed go first, "with no question, the rest from that entry on as it then is, if any"; else a query, if one is due, with all that are
-- known.
abbrev pub turn_with : ℕ → List ℕ → Browser → List Entry → List ℕ → Turn
turn_with now store b es (i ∷ is) = record {
  packet = packet_for now store es [] (i ∷ is);
  browser = resumed b now (stop_for now store es [] (i ∷ is));
}
turn_with now store b es [] =
    let known : List ℕ = known_from now store b es 0 in
    cond (query_due now store b es)
    (record { packet = packet_for now store es (asking b) known; browser = asked b now (stop_for now store es (asking b) known) })
    (record { packet = []; browser = resumed b now None })

unfoldable pub turn_of : ℕ → List ℕ → Browser → List Entry → Turn
turn_of now store b es = turn_with now store b es (known_owed now store b es b.owed)

unfoldable pub ticked_packet : Browser → ℕ → List Entry → List ℕ → ℕ → List ℕ
ticked_packet b now es store room = unless_refused (tick_refusal b now es store room) (turn_of now store b es).packet

-- "it says whether more is due at that time"
unfoldable pub tick_of : Browser → ℕ → List Entry → List ℕ → ℕ → Ticked
tick_of b now es store room =
    let number : ℕ = tick_refusal b now es store room in
    let turn : Turn = turn_of now store b es in record {
      answer = answer_for (refused_by (tick_tests b now es store room)) (ticked_packet b now es store room);
      more = cond (eqb number 0) (is_due now store turn.browser es) false;
      browser = cond (eqb number 0) turn.browser b;
    }

-- what `tick` gives, over an out buffer
pub record Ticks (b : Browser) (now : ℕ) (es : List Entry) (store out : List ℕ) (r : Ticked) (out' : List ℕ) : Type 0 where
  pub answers : r ≡ tick_of b now es store (length out)
  pub writes : out' ≡ laid_over (ticked_packet b now es store (length out)) out

-- ---- the next due time

unfoldable pub next_due : ℕ → List ℕ → Browser → List Entry → ℕ
next_due now store b es = cond (is_owed b.owed) now (next_query now store b es)

unfoldable pub due_of : Browser → ℕ → List Entry → List ℕ → Result ℕ Refusal
due_of b now es store = or_refused (refused_by (look_tests b now es store)) (next_due now store b es)

-- ---- the list

unfoldable pub list_of : Browser → ℕ → List Entry → List ℕ → ℕ → Result (Option ℕ) Refusal
list_of b now es store from = or_refused (refused_by (look_tests b now es store)) (listed_from now store b es from)
