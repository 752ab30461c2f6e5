-- Calls to which the theorems apply, so that they are not about nothing: a browser for _http._tcp.local over a table of three entries, two of which show one
-- target. Proved in proofs/Witness.antt by evaluation. Assumes nothing.
use Rattle.std.specs.Prelude.{ℕ, ◌≡◌, true, false, List, [], ◌∷◌, ◌++◌, replicate, take, Some, None}
use Rattle.own.specs.declared.records.Service.{Service}
use Rattle.cache.specs.declared.entries.Entry.{Entry}
use Rattle.browser.specs.declared.Ticked.{Ticked}
use Rattle.browser.specs.declared.Answer.TheVariants.{Sent}
use Rattle.browser.specs.service.Sound.{Sound}
use Rattle.browser.specs.list.Listing.{list_in, targets_in}
use Rattle.browser.specs.series.Spacing.{asks, series_times}
use Rattle.browser.specs.Calls.{start_refusal, start_of, tick_refusal, ticked_packet, tick_of, next_due, is_due}
use Rattle.browser.specs.Runs.{Event, tick, State, after, after_all}

-- _tcp.local, _http._tcp.local and _HTTP._tcp.local
abbrev pub below : List ℕ
below = 4 ∷ 95 ∷ 116 ∷ 99 ∷ 112 ∷ 5 ∷ 108 ∷ 111 ∷ 99 ∷ 97 ∷ 108 ∷ 0 ∷ []

abbrev pub small : List ℕ
small = 5 ∷ 95 ∷ 104 ∷ 116 ∷ 116 ∷ 112 ∷ below

abbrev pub capital : List ℕ
capital = 5 ∷ 95 ∷ 72 ∷ 84 ∷ 84 ∷ 80 ∷ below

-- a slot of the store: the owner's 18 bytes, and rdata of 20
abbrev pub slot : List ℕ → List ℕ → List ℕ
slot owner rdata = owner ++ (replicate 238 0 ++ (rdata ++ replicate 748 0))

-- the instance a, the same in a capital, and b, whose target is cut one byte short
abbrev pub store : List ℕ
store = slot small (1 ∷ 97 ∷ small) ++ (slot capital (1 ∷ 65 ∷ small) ++ slot small (1 ∷ 98 ∷ small))

-- of a TTL of 100 s, received at 0
abbrev pub entry_of : ℕ → Entry
entry_of rdata = record { rtype = 12; owner = 18; rdata = rdata; received = 0; expiry = 100000; ttl = 100 }

abbrev pub entries : List Entry
entries = entry_of 20 ∷ entry_of 20 ∷ entry_of 19 ∷ []

abbrev pub service : Service
service = record { bytes = 95 ∷ 104 ∷ 116 ∷ 116 ∷ 112 ∷ replicate 11 0; len = 5 }

abbrev pub protocol : List ℕ
protocol = 95 ∷ 116 ∷ 99 ∷ 112 ∷ []

abbrev pub domain : List ℕ
domain = 108 ∷ 111 ∷ 99 ∷ 97 ∷ 108 ∷ []

-- started at 0 with the draws 20 and 0
abbrev pub begun : State
begun = record { entries = entries; store = store; browser = (start_of service protocol domain 0 20 0).browser }

abbrev pub ticks : List Event
ticks =
    tick 19 1452 ∷ tick 20 1452 ∷ tick 1019 1452 ∷ tick 1020 1452 ∷ tick 3020 1452 ∷ tick 7020 1452 ∷ tick 15020 1452 ∷ tick 31020 1452 ∷ tick 63020 1452 ∷ []

-- ---- seven entries whose targets have three more labels of 63 bytes, of one letter each: more than a packet takes

abbrev pub label : ℕ → List ℕ
label letter = 63 ∷ replicate 63 letter

abbrev pub wide : ℕ → List ℕ
wide letter = small ++ (replicate 238 0 ++ (label letter ++ (label letter ++ (label letter ++ (small ++ replicate 558 0)))))

abbrev pub crowd : State
crowd = record {
  entries = replicate 7 (entry_of 210);
  store = wide 97 ++ (wide 98 ++ (wide 99 ++ (wide 100 ++ (wide 101 ++ (wide 102 ++ wide 103)))));
  browser = begun.browser;
}

abbrev pub tick_at : State → ℕ → Ticked
tick_at s now = tick_of s.browser now s.entries s.store 1452

-- the state after the truncated query
abbrev pub owing : State
owing = after crowd (tick 20 1452)

-- `witness`
pub record Witness : Type 0 where
  pub starts : start_refusal service protocol domain 0 20 0 ≡ 0
  pub sound : Sound begun.browser
  pub ticks_pass : tick_refusal begun.browser 20 entries store 1452 ≡ 0
  -- one target is listed, as in the first slot, and none when the TTL has passed
  pub lists : targets_in 20 store begun.browser entries ≡ (1 ∷ 97 ∷ small) ∷ []
  pub dies : list_in 100000 store begun.browser entries ≡ []
  -- the first query goes out after the draw, and lists both entries that are known with 99 s
  pub idle : is_due 19 store begun.browser entries ≡ false
  pub waits : next_due 0 store begun.browser entries ≡ 20
  pub lists_known : ticked_packet begun.browser 20 entries store 1452
      ≡ (0 ∷ 0 ∷ 0 ∷ 0 ∷ 0 ∷ 1 ∷ 0 ∷ 2 ∷ 0 ∷ 0 ∷ 0 ∷ 0 ∷ []) ++ ((small ++ (0 ∷ 12 ∷ 0 ∷ 1 ∷ []))
      ++ ((192 ∷ 12 ∷ 0 ∷ 12 ∷ 0 ∷ 1 ∷ 0 ∷ 0 ∷ 0 ∷ 99 ∷ 0 ∷ 4 ∷ 1 ∷ 97 ∷ 192 ∷ 12 ∷ [])
      ++ (5 ∷ 95 ∷ 72 ∷ 84 ∷ 84 ∷ 80 ∷ 192 ∷ 18 ∷ 0 ∷ 12 ∷ 0 ∷ 1 ∷ 0 ∷ 0 ∷ 0 ∷ 99 ∷ 0 ∷ 4 ∷ 1 ∷ 65 ∷ 192 ∷ 12 ∷ [])))
  -- a second, two, four .. apart; then 80 percent of the TTL are reached before the next of the series is due
  pub series : series_times begun ticks ≡ 20 ∷ 1020 ∷ 3020 ∷ 7020 ∷ 15020 ∷ 31020 ∷ 63020 ∷ []
  pub refreshes : next_due 63020 store (after_all begun ticks).browser entries ≡ 80000
  pub refresh_asks : asks (after_all begun ticks) 80000 1452 ≡ true
  pub once : is_due 80000 store (after_all begun (ticks ++ (tick 80000 1452 ∷ []))).browser entries ≡ false
  -- a query with TC lists six of seven; the next tick sends the seventh with no question, and nothing is owed then
  pub truncated : ((tick_at crowd 20).answer ≡ Sent 1270) × (((tick_at crowd 20).more ≡ true) × (owing.browser.owed ≡ Some 6))
  pub flags : take 4 (ticked_packet crowd.browser 20 crowd.entries crowd.store 1452) ≡ 0 ∷ 0 ∷ 2 ∷ 0 ∷ []
  pub rest : ((tick_at owing 20).answer ≡ Sent 234) × (((tick_at owing 20).more ≡ false) × ((tick_at owing 20).browser.owed ≡ None))
