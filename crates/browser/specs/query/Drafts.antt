-- A packet as it is composed: room for a header, the question, and known answers one after the other. What it comes to is in Query (proofs/query/Packets.antt).
-- Assumes nothing: these are definitions.
use Rattle.std.specs.Option.{is_some, unwrap_or}
use Rattle.std.specs.Prelude.{ℕ, ◌≤◌, ◌≡◌, Bool, false, cond, ◌&&◌, List, [], ◌∷◌, ◌++◌, map, ltb, leb, length, take, drop, replicate, Option}
use Rattle.wire.specs.message.Message.{Question, Record, record_of}
use Rattle.writer.specs.Fit.{fit_record}
use Rattle.writer.specs.Items.{Writing, put_question, put_record}
use Rattle.writer.specs.Writer.{held_in}
use Rattle.writer.specs.compression.Sentence.{Rising}
use Rattle.writer.specs.own_packets.Packets.{put_all, header_bytes}
use Rattle.writer.specs.own_packets.Own.{laid_over}
use Rattle.writer.specs.declared.Spot.{Spot}
use Rattle.cache.specs.entries.Entries.{slot_of}
use Rattle.browser.specs.declared.Browser.{Browser}
use Rattle.browser.specs.declared.known_answers.Known.{Known}
use Rattle.browser.specs.declared.known_answers.Plan.{Plan}
use Rattle.browser.specs.declared.query.Draft.{Draft}
use Rattle.browser.specs.service.Service.{service_name}
use Rattle.browser.specs.known_answers.Plans.{planned}
use Rattle.browser.specs.query.Query.{asking, first_slot}

-- the question, where one is asked
abbrev pub questions : Bool → Browser → List Question
questions asks b = cond asks (asking b) []

-- behind room for a header
abbrev pub no_header : Writing
no_header = record { bytes = replicate 12 0; places = [] }

unfoldable pub opened : Bool → Browser → Writing
opened asks b = put_all put_question no_header (questions asks b)

-- the record of a known answer, whose owner has so many bytes
abbrev pub record_in : List ℕ → ℕ → Known → Record
record_in store len k = record_of (take len (slot_of store k.slot)) 12 1 k.ttl (take k.len (drop 256 (slot_of store k.slot)))

-- those of a plan: each owner has as many bytes as the name
abbrev pub records_of : List ℕ → Browser → Plan → List Record
records_of store b p = map (record_in store (length (service_name b))) (planned p)

-- a record can be put behind a packet: it is one that a reader takes, and ends within 1,452 bytes
abbrev pub goes_behind : Writing → Record → Bool
goes_behind w r = fit_record r.owner r.rtype r.ttl r.rdata && leb (length (put_record false w r).bytes) 1452

-- the records up to the first that cannot
unfoldable pub fitted : Writing → List Record → List Record
fitted w [] = []
fitted w (r ∷ rs) = cond (goes_behind w r) (r ∷ fitted (put_record false w r) rs) []

abbrev pub filled : Writing → List Record → Writing
filled w rs = put_all (put_record false) w (fitted w rs)

-- how many known answers of a plan are put, and where it stopped
unfoldable pub draft_count : Bool → Browser → List ℕ → Plan → ℕ
draft_count asks b store p = length (fitted (opened asks b) (records_of store b p))

abbrev pub slots_of : List Known → List ℕ
slots_of ks = map (λ (k : Known). k.slot) ks

unfoldable pub stop_at : Plan → ℕ → Option ℕ
stop_at p k = first_slot (drop k (slots_of (planned p)))

abbrev pub draft_stop : Bool → Browser → List ℕ → Plan → Option ℕ
draft_stop asks b store p = stop_at p (draft_count asks b store p)

-- the header: ID 0, the TC bit where not all were put, the counts
abbrev pub head_bytes : Bool → ℕ → Bool → List ℕ
head_bytes asks k truncated = header_bytes 0 (cond truncated 0x200 0) (cond asks 1 0) k 0 0

unfoldable pub draft_packet : Bool → Browser → List ℕ → Plan → List ℕ
draft_packet asks b store p =
    head_bytes asks (draft_count asks b store p) (ltb (draft_count asks b store p) (length (planned p)))
    ++ drop 12 (filled (opened asks b) (records_of store b p)).bytes

-- ---- contracts

-- a packet under construction in two buffers of 2,048: it ends within 1,452 bytes, and its labels start at rising offsets behind the header
pub record Composing (spot : Spot) (out places : List ℕ) : Type 0 where
  pub sized : length out ≡ 2048
  pub noted : length places ≡ 2048
  pub ended : spot.end ≤ 1452
  pub counted : spot.count ≤ 2048
  pub rising : Rising 12 spot.end (take spot.count places)

-- the packet w stands in the buffers
pub record Holds (w : Writing) (spot : Spot) (out places : List ℕ) : Type 0 where
  pub here : held_in out places spot.end spot.count ≡ w
  pub room : Composing spot out places

-- a record is put behind the packet w that ends at a spot, if it can be; the buffers hold the packet then
pub record Puts (w : Writing) (r : Record) (at : Spot) (answer : Option Spot) (out' places' : List ℕ) : Type 0 where
  pub put : is_some answer ≡ goes_behind w r
  pub holds : Holds (cond (goes_behind w r) (put_record false w r) w) (unwrap_or answer at) out' places'

-- the draft of some records behind a packet w
pub record Composes (w : Writing) (rs : List Record) (d : Draft) (out' : List ℕ) : Type 0 where
  pub answers : d.answers ≡ length (fitted w rs)
  pub bytes : take d.end out' ≡ (filled w rs).bytes
  pub ended : d.end ≡ length (filled w rs).bytes
  pub sized : length out' ≡ 2048
  pub most : d.end ≤ 1452

-- a draft of a plan, laid over a buffer
pub record Writes (asks : Bool) (b : Browser) (store : List ℕ) (p : Plan) (out : List ℕ) (d : Draft) (out' : List ℕ) : Type 0 where
  pub answers : d.answers ≡ draft_count asks b store p
  pub ended : d.end ≡ length (draft_packet asks b store p)
  pub bytes : out' ≡ laid_over (draft_packet asks b store p) out
