-- What the packets of a browser say: "The packet reads back as the question and exactly the entries that are listed, in order, with their TTLs". Statements;
-- proved in proofs/query/ReadBack.antt. Assumes nothing.
use Rattle.std.specs.Prelude.{ℕ, suc, ◌≤◌, ◌<◌, ◌≡◌, Bool, false, List, [], ltb, length, take}
use Rattle.wire.specs.message.Message.{Record, Message}
use Rattle.wire.specs.message.Layout.{read, message_at}
use Rattle.roundtrip.specs.Writable.{layout_of}
use Rattle.cache.specs.declared.entries.Entry.{Entry}
use Rattle.browser.specs.declared.Browser.{Browser}
use Rattle.browser.specs.service.Sound.{Sound}
use Rattle.browser.specs.known_answers.Known.{known_from, answers_of}
use Rattle.browser.specs.query.Query.{query_of, fits, listed, packet_for}
use Rattle.browser.specs.query.Drafts.{questions}

-- the known answers from a slot on, and those of them that are listed
abbrev pub known_answers : Browser → ℕ → List ℕ → List Entry → ℕ → List Record
known_answers b now store es start = answers_of now store es (known_from now store b es start)

abbrev pub listed_answers : Bool → Browser → ℕ → List ℕ → List Entry → ℕ → List Record
listed_answers asks b now store es start = listed (questions asks b) [] (known_answers b now store es start)

-- the message: TC is set exactly where not all are listed
abbrev pub message_for : Bool → Browser → ℕ → List ℕ → List Entry → ℕ → Message
message_for asks b now store es start =
    query_of (questions asks b) (ltb (length (listed_answers asks b now store es start)) (length (known_answers b now store es start)))
    (listed_answers asks b now store es start)

pub record Says (asks : Bool) (b : Browser) (now : ℕ) (store : List ℕ) (es : List Entry) (start : ℕ) : Type 0 where
  -- the packet is read as the message
  pub reads : message_at (packet_for now store es (questions asks b) (known_from now store b es start))
      ≡ read (layout_of false (message_for asks b now store es start)) (message_for asks b now store es start)
  pub short : length (packet_for now store es (questions asks b) (known_from now store b es start)) ≤ 1452
  -- what is listed are the first known answers, and behind them the first would not fit
  pub first : listed_answers asks b now store es start
      ≡ take (length (listed_answers asks b now store es start)) (known_answers b now store es start)
  pub cut : length (listed_answers asks b now store es start) < length (known_answers b now store es start)
      → fits (questions asks b) (take (suc (length (listed_answers asks b now store es start))) (known_answers b now store es start)) ≡ false

-- `query-says`: with a question or without one, of every browser that is not refused, over every table
abbrev pub QuerySays : Type 0
QuerySays = (asks : Bool) (b : Browser) → Sound b → (now : ℕ) (store : List ℕ) (es : List Entry) (start : ℕ) → Says asks b now store es start
