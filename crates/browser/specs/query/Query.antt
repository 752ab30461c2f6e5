-- The packets of a browser: "A query asks type PTR, class 1, and lists .. until one would pass 1,452 bytes. Then TC is set and the next tick sends, with no
-- question, the rest". Assumes nothing: these are definitions.
use Rattle.std.specs.Prelude.{ℕ, List, [], ◌∷◌, ◌++◌, Bool, false, cond, ltb, leb, length, drop, Option, Some, None}
use Rattle.wire.specs.message.Message.{Question, Record, Message}
use Rattle.writer.specs.Writer.{question_of}
use Rattle.writer.specs.own_packets.Packets.{packet_of}
use Rattle.cache.specs.declared.entries.Entry.{Entry}
use Rattle.browser.specs.declared.Browser.{Browser}
use Rattle.browser.specs.service.Service.{service_name}
use Rattle.browser.specs.known_answers.Known.{answers_of}

-- the question: type PTR (12), class 1
abbrev pub asking : Browser → List Question
asking b = question_of (service_name b) 12 1 ∷ []

-- a query with known answers: ID 0, flags 0, and the TC bit where one did not fit
abbrev pub query_of : List Question → Bool → List Record → Message
query_of qs truncated rs = record {
  id = 0;
  flags = cond truncated 0x200 0;
  questions = qs;
  answers = rs;
  authorities = [];
  additionals = [];
}

-- its packet, names cut as in every packet, has at most 1,452 bytes
unfoldable pub fits : List Question → List Record → Bool
fits qs rs = leb (length (packet_of false (query_of qs false rs))) 1452

-- "in entry order until one would pass 1,452 bytes": those that are listed, behind some that are
unfoldable pub listed : List Question → List Record → List Record → List Record
listed qs before [] = before
listed qs before (r ∷ rs) = cond (fits qs (before ++ (r ∷ []))) (listed qs (before ++ (r ∷ [])) rs) before

-- what is sent of some known answers: the packet, and where it stopped
abbrev pub packet_with : List Question → List Record → List ℕ
packet_with qs rs = packet_of false (query_of qs (ltb (length (listed qs [] rs)) (length rs)) (listed qs [] rs))

unfoldable pub packet_for : ℕ → List ℕ → List Entry → List Question → List ℕ → List ℕ
packet_for now store es qs slots = packet_with qs (answers_of now store es slots)

abbrev pub first_slot : List ℕ → Option ℕ
first_slot [] = None
first_slot (i ∷ is) = Some i

-- the first that did not fit: from it on the rest is owed
unfoldable pub stop_for : ℕ → List ℕ → List Entry → List Question → List ℕ → Option ℕ
stop_for now store es qs slots = first_slot (drop (length (listed qs [] (answers_of now store es slots))) slots)
