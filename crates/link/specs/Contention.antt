-- Contention ends: demand 3 says that no two hold a name; here is that one does, and goes on to. A responder that holds keeps the name, one of those that
-- contend comes to hold it, and no later than 1,200 ms after the last start just one of them does, while they are left alone. Assumes nothing.
use Rattle.std.specs.Prelude.{◌≡◌, ◌≢◌, ◌⊎◌, Bool, true, false, List, ℕ, suc, ◌+◌, ◌≤◌, ◌<◌, length}
use Rattle.std.proofs.Math.Option.{none, some}
use Rattle.link.specs.Responder.{Responder, Parcel, Claim}
use Rattle.link.specs.Entries.{Entry, time_at, owner_at, runs, sent_at, heard_at, setup_of, data_at, update_at}
use Rattle.link.specs.Premises.{Among, delivery_time, Premises}
use Rattle.link.specs.Holding.{is_and, conflicts_with, hears, holds}
use Rattle.link.specs.Demand3.{holding_time}

-- What the tiebreak sees: which messages are probes for a name, and which of two set-ups has the later records for a claim ("Later: sort each list by
-- class, type, rdata bytes"). `defeats` of a responder is both at once, of a message against a set-up.
pub record Tiebreak (D : Responder) : Type 0 where
  pub probes : D.Message → List ℕ → Bool
  pub later : D.Setup → D.Setup → Claim → Bool

module _ (D : Responder) where
  open D use {Setup}

  -- responder d wants the name by its claim k
  unfoldable pub wants : List (Entry D) → Claim → List ℕ → ℕ → Bool
  wants es k name d = is_and (λ (s : Setup). D.same_name name (D.name s k)) (setup_of D es d)

  -- responder d has begun: its start was not refused
  abbrev pub begun : List (Entry D) → ℕ → Bool
  begun es d = runs D es d (suc d)

  -- what entry n hears was sent by a responder of the list, at an entry from `since` on
  pub record FromList (es : List (Entry D)) (since n : ℕ) : Type 0 where
    pub at : ℕ
    pub since_then : since ≤ at
    pub before : at < n
    pub parcel : Parcel
    pub sent : Among parcel (sent_at D es at)
    pub heard : heard_at D es n ≡ some parcel.bytes

  -- At the entries from `since` on and before `until` the responders that want the name are left alone: "no responder of that name is cut, stopped or
  -- updated, and every conflicting response heard by a responder of that name was sent by a responder of the list". `since` may be 0, and `until` the length.
  pub record LeftAlone (es : List (Entry D)) (k : Claim) (name : List ℕ) (since until : ℕ) : Type 0 where
    pub non_empty : since < until
    pub in_list : until ≤ length es
    -- not cut or stopped
    pub running : (d n : ℕ) → wants es k name d ≡ true → since ≤ n → n < until → runs D es d n ≡ true → runs D es d (suc n) ≡ true
    -- not updated: no update is taken then, nor was one within 100 ms before
    pub unchanged :
        (d n : ℕ)
        → wants es k name d ≡ true
        → n < until
        → time_at D es since ≤ time_at D es n + delivery_time
        → owner_at D es n ≡ d
        → update_at D es n ≡ none
    -- no stranger's response, and none from before, conflicts
    pub from_list :
        (d n : ℕ)
        → wants es k name d ≡ true
        → since ≤ n
        → n < until
        → hears D es d (λ s. conflicts_with D s k) n ≡ true
        → FromList es since n

  -- two set-ups have different data in a record type that both carry
  pub record Differ (s t : Setup) (k : Claim) : Type 0 where
    pub type : ℕ
    pub one_data : List ℕ
    pub other_data : List ℕ
    pub one_carries : D.rdata s k type ≡ some one_data
    pub other_carries : D.rdata t k type ≡ some other_data
    pub different : one_data ≢ other_data

  -- after the first n entries another responder than x holds the name, and it held it at a moment before
  pub record HeldBefore (es : List (Entry D)) (k : Claim) (name : List ℕ) (x n : ℕ) : Type 0 where
    pub holder : ℕ
    pub other : holder ≢ x
    pub wanted : wants es k name holder ≡ true
    pub moment : ℕ
    pub before : moment < n
    pub held : holds D es holder k moment ≡ true
    pub holding : holds D es holder k n ≡ true

  -- the name's one holder from the moment n to the moment `until`
  pub record OneHolder (es : List (Entry D)) (k : Claim) (name : List ℕ) (n until : ℕ) : Type 0 where
    pub holder : ℕ
    pub wanted : wants es k name holder ≡ true
    pub holding : (m : ℕ) → n ≤ m → m ≤ until → holds D es holder k m ≡ true
    pub others : (d m : ℕ) → wants es k name d ≡ true → d ≢ holder → n ≤ m → m ≤ until → holds D es d k m ≡ false

  module _ (T : Tiebreak D) where
    -- the packet is a probe for the claim's name
    unfoldable pub probes_for : Setup → Claim → List ℕ → Bool
    probes_for s k p = is_and (λ m. T.probes m (D.name s k)) (D.read p)

    -- what entry n hears was sent by a responder of the list whose records are not later than those of s
    pub record NotLater (es : List (Entry D)) (k : Claim) (s : Setup) (n : ℕ) : Type 0 where
      pub from : FromList es 0 n
      pub theirs : Setup
      pub has : data_at D es (owner_at D es from.at) (suc from.at) ≡ some theirs
      pub not_later : T.later theirs s k ≡ false

    -- "every probe for it that X hears within 1,200 ms of its start, that last millisecond included, was sent by a responder whose records are not later than
    -- X's"
    pub record Latest (es : List (Entry D)) (k : Claim) (x : ℕ) : Type 0 where
      pub setup : Setup
      pub has : setup_of D es x ≡ some setup
      pub not_later : (n : ℕ) → time_at D es n ≤ time_at D es x + holding_time → hears D es x (λ s. probes_for s k) n ≡ true → NotLater es k setup n

    pub record Contention (es : List (Entry D)) (k : Claim) (name : List ℕ) (since until : ℕ) : Type 0 where
      -- a holder keeps its name
      pub keeps :
          (d m n : ℕ) → wants es k name d ≡ true → since ≤ m → m ≤ n → n ≤ until → holds D es d k m ≡ true → holds D es d k n ≡ true
      -- someone holds it 1,200 ms after the start of a responder with the latest records: that one, or one that held it before
      pub someone :
          (x n : ℕ)
          → wants es k name x ≡ true
          → since ≤ x
          → begun es x ≡ true
          → Latest es k x
          → n ≤ until
          → n < length es
          → time_at D es x + holding_time < time_at D es n
          → (holds D es x k n ≡ true) ⊎ HeldBefore es k name x n
      -- just one holds it: two with different data never do, without demand 3's exception
      pub just_one :
          (d e m : ℕ) (s t : Setup)
          → wants es k name d ≡ true
          → wants es k name e ≡ true
          → since ≤ m
          → m ≤ until
          → data_at D es d m ≡ some s
          → data_at D es e m ≡ some t
          → Differ s t k
          → holds D es d k m ≡ true
          → holds D es e k m ≡ true
          → ⊥

    unfoldable pub ContentionEnds : Type 0
    ContentionEnds =
        (es : List (Entry D)) → Premises D es → (k : Claim) (name : List ℕ) (since until : ℕ) → LeftAlone es k name since until
        → Contention es k name since until

    -- ---- how soon for all

    -- of the responders that want the name and have begun among the first n entries one has the latest records
    pub record Last (es : List (Entry D)) (k : Claim) (name : List ℕ) (n : ℕ) : Type 0 where
      pub at : ℕ
      pub before : at < n
      pub wanted : wants es k name at ≡ true
      pub begins : begun es at ≡ true
      pub setup : Setup
      pub has : setup_of D es at ≡ some setup
      pub latest :
          (e : ℕ) (t : Setup) → e < n → wants es k name e ≡ true → begun es e ≡ true → setup_of D es e ≡ some t → T.later t setup k ≡ false

    -- "n docks with the same two names and different data are switched on in any order and left alone": one at least has begun, and each that has begun by
    -- the moment n did so more than 1,200 ms before the entry there
    pub record SwitchedOn (es : List (Entry D)) (k : Claim) (name : List ℕ) (n until : ℕ) : Type 0 where
      pub alone : LeftAlone es k name 0 until
      -- the probes for the name that they hear are their own
      pub probes :
          (d m : ℕ) → wants es k name d ≡ true → m < until → hears D es d (λ s. probes_for s k) m ≡ true → FromList es 0 m
      pub different :
          (d e : ℕ) (s t : Setup)
          → wants es k name d ≡ true
          → wants es k name e ≡ true
          → d ≢ e
          → begun es d ≡ true
          → begun es e ≡ true
          → setup_of D es d ≡ some s
          → setup_of D es e ≡ some t
          → Differ s t k
      pub one : ℕ
      pub wanted : wants es k name one ≡ true
      pub begins : begun es one ≡ true
      pub started : one < n
      pub by : n ≤ until
      pub in_list : n < length es
      pub all : (d : ℕ) → d < n → wants es k name d ≡ true → begun es d ≡ true → time_at D es d + holding_time < time_at D es n

    -- "each name has exactly one holder from 1,200 ms after the last one's start on", and no other holds it while it is left alone, whoever starts later
    unfoldable pub OneIsLeft : Type 0
    OneIsLeft =
        (es : List (Entry D)) → Premises D es → (k : Claim) (name : List ℕ) (n until : ℕ) → SwitchedOn es k name n until → OneHolder es k name n until

    -- among finitely many one is latest: the premise of `someone` can be met
    unfoldable pub LastExists : Type 0
    LastExists =
        (es : List (Entry D)) (k : Claim) (name : List ℕ) (n one : ℕ) → one < n → wants es k name one ≡ true → begun es one ≡ true → Last es k name n
