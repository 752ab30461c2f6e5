-- Two links joined ("Two floors joined"): two groups of responders ran apart, and what came before the joining is any list of calls. Demand 3's premises are
-- met "from the moment of joining", and no update is taken since. Assumes nothing.
use Rattle.std.specs.Prelude.{◌≡◌, ◌≢◌, ◌⊎◌, true, false, List, ℕ, suc, ◌+◌, ◌≤◌, ◌<◌, length}
use Rattle.std.proofs.Common.{sym}
use Rattle.std.proofs.Math.Option.{none, some}
use Rattle.link.specs.Responder.{Responder, Parcel, everyone, Claim}
use Rattle.link.specs.Entries.{Entry, time_at, clock_at, owner_at, after, runs, accepted_at, sent_at, heard_at, data_at, update_at}
use Rattle.link.specs.Premises.{Among, delivery_time, lateness, Reaches, Delivered, due_in}
use Rattle.link.specs.Holding.{responds_for, conflicts_with, holds}

module _ (D : Responder) where
  open D use {Setup}

  -- entry n is a call of responder d that is not refused: its start, a tick, a packet received or an update
  pub record CallOf (es : List (Entry D)) (d n : ℕ) : Type 0 where
    pub whose : owner_at D es n ≡ d
    pub not_refused : (accepted_at D es n ≡ true) ⊎ ((n ≡ d) × (runs D es d (suc d) ≡ true))

  -- Demand 3's premises "from then on": of the entries from `joining` on, which come at or after the link's time `moment`. What came before is any list.
  pub record PremisesFrom (es : List (Entry D)) (joining moment : ℕ) : Type 0 where
    pub address : ℕ → List ℕ
    -- the list is in order from the moment on
    pub since : (n : ℕ) → joining ≤ n → n < length es → moment ≤ time_at D es n
    pub in_order : (n : ℕ) → joining ≤ n → suc n < length es → time_at D es n ≤ time_at D es (suc n)
    -- all clocks run at one rate: the clock is as far from the link's time at one call as at another
    pub one_rate :
        (d m n : ℕ)
        → joining ≤ m
        → joining ≤ n
        → CallOf es d m
        → CallOf es d n
        → clock_at D es m + time_at D es n ≡ clock_at D es n + time_at D es m
    -- what is sent since the joining is taken as in demand 3
    pub delivered :
        (i j e : ℕ) (parcel : Parcel)
        → joining ≤ i
        → i < j
        → Among parcel (sent_at D es i)
        → Reaches D address e parcel.to
        → e ≢ owner_at D es i
        → runs D es e i ≡ true
        → j < length es
        → runs D es e j ≡ true
        → time_at D es i + delivery_time < time_at D es j
        → Delivered D es address e i parcel.bytes
    -- every due step is at most 50 ms late; one that is overdue at the joining may be taken until 50 ms after the moment. A call m of d's tells how far its
    -- clock is from the link's time.
    pub on_time :
        (d m n u : ℕ)
        → joining ≤ m
        → joining ≤ n
        → n < length es
        → CallOf es d m
        → Among u (due_in D (after D es d n))
        → (time_at D es n + clock_at D es m ≤ u + lateness + time_at D es m) ⊎ (time_at D es n ≤ moment + lateness)

  -- two responders, and a claim of each
  pub record Two : Type 0 where
    pub one : ℕ
    pub other : ℕ
    pub two : one ≢ other
    pub one_claim : Claim
    pub other_claim : Claim

  -- the same, the other way round
  abbrev pub mirror : Two → Two
  mirror w =
      record {
        one = w.other;
        other = w.one;
        two = λ e. w.two (sym e);
        one_claim = w.other_claim;
        other_claim = w.one_claim;
      }

  -- "one of them takes a multicast, sent since the joining, of a differing record, TTL not 0, from the other": a response of the other's under its name, sent
  -- to all at an entry since the joining, that conflicts with the claim of the one, by the data of each then
  pub record Hearing (es : List (Entry D)) (joining : ℕ) (w : Two) : Type 0 where
    pub sent : ℕ
    pub taken : ℕ
    pub since : joining ≤ sent
    pub later : sent < taken
    pub sender : owner_at D es sent ≡ w.other
    pub taker : owner_at D es taken ≡ w.one
    pub packet : List ℕ
    pub sends : Among (record { to = everyone; bytes = packet }) (sent_at D es sent)
    pub takes : heard_at D es taken ≡ some packet
    pub other_setup : Setup
    pub other_has : data_at D es w.other sent ≡ some other_setup
    pub responds : responds_for D other_setup w.other_claim packet ≡ true
    pub one_setup : Setup
    pub one_has : data_at D es w.one taken ≡ some one_setup
    pub differs : conflicts_with D one_setup w.one_claim packet ≡ true

  -- after the first n entries both "hold that name together with different data", "in a type both carry"
  pub record Together (es : List (Entry D)) (w : Two) (n : ℕ) : Type 0 where
    pub one_holds : holds D es w.one w.one_claim n ≡ true
    pub other_holds : holds D es w.other w.other_claim n ≡ true
    pub one_setup : Setup
    pub other_setup : Setup
    pub one_has : data_at D es w.one n ≡ some one_setup
    pub other_has : data_at D es w.other n ≡ some other_setup
    pub same_name : D.same_name (D.name one_setup w.one_claim) (D.name other_setup w.other_claim) ≡ true
    pub type : ℕ
    pub one_data : List ℕ
    pub other_data : List ℕ
    pub one_carries : D.rdata one_setup w.one_claim type ≡ some one_data
    pub other_carries : D.rdata other_setup w.other_claim type ≡ some other_data
    pub different : one_data ≢ other_data

  pub record Parted (es : List (Entry D)) (joining : ℕ) (w : Two) (h : Hearing es joining w) : Type 0 where
    -- "The dock that heard it is not a holder after that very call."
    pub ended : holds D es w.one w.one_claim (suc h.taken) ≡ false
    -- "the two never again hold that name together with different data"
    pub never : (n : ℕ) → h.taken < n → n ≤ length es → Together es w n → ⊥

  -- "L4's updates left out": no update is taken since the joining
  abbrev pub Unchanged : List (Entry D) → ℕ → Type 0
  Unchanged es joining = (n : ℕ) → joining ≤ n → update_at D es n ≡ none

  -- Whether they held before, and whether it is the first moment, does not matter.
  unfoldable pub Joined : Type 0
  Joined =
      (es : List (Entry D)) (joining moment : ℕ)
      → PremisesFrom es joining moment
      → Unchanged es joining
      → (w : Two) (h : Hearing es joining w)
      → Parted es joining w h

  -- ---- in the request's own words

  pub record FirstHearing (es : List (Entry D)) (joining : ℕ) (w : Two) : Type 0 where
    -- "take any two docks that hold one name with different data in a type both carry"
    pub at : ℕ
    pub joined : joining ≤ at
    pub holding : Together es w at
    -- "From the first moment that one of them takes a multicast ..": of either, from the other
    pub hearing : Hearing es joining w
    pub since : at ≤ hearing.taken
    pub first : (g : Hearing es joining w) → at ≤ g.taken → hearing.taken ≤ g.taken
    pub first_of_both : (g : Hearing es joining (mirror w)) → at ≤ g.taken → hearing.taken ≤ g.taken

  unfoldable pub TwoFloorsJoined : Type 0
  TwoFloorsJoined =
      (es : List (Entry D)) (joining moment : ℕ)
      → PremisesFrom es joining moment
      → Unchanged es joining
      → (w : Two) (f : FirstHearing es joining w)
      → Parted es joining w f.hearing
