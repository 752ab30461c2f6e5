-- One responder's claim along the list, as the proofs of demand 3 see it: the claim's stage after the first n entries, what each entry does to it, and
-- when its steps are due. Nothing is said of packets, states or calls. Assumes nothing.
use mathlib.Core.Path.{◌≡◌}
use mathlib.Core.Logic.{◌⊎◌}
use Prim.Native.Nat.{ℕ, suc, ◌+◌, ◌≤◌, ◌<◌}
use Rattle.link.specs.Premises.{lateness}
use Rattle.link.specs.Laws.{probe_gap, Stage, waiting, probing, held, Unclaimed}

-- some probes are sent and the claim is not held
abbrev pub Probing : Stage → Type 0
Probing f = (i : ℕ) × (u : ℕ) × (f ≡ probing i u)

-- the claim's next probe, or its holding, is due at u
pub data Due (f : Stage) (u : ℕ) : Type 0 where
  first : f ≡ waiting u → Due f u
  further : (i : ℕ) → f ≡ probing i u → Due f u

-- The list: its length, each entry's link time, the clock that its call carries. Demand 3's premises are met by the entries from `base` on, which come
-- since the link's time `outset`: the list's beginning, or a later moment.
pub record Link : Type 0 where
  pub count : ℕ
  pub time : ℕ → ℕ
  pub now : ℕ → ℕ
  pub base : ℕ
  pub outset : ℕ
  pub since : (n : ℕ) → base ≤ n → n < count → outset ≤ time n
  pub in_order_lem : (i j : ℕ) → base ≤ i → i ≤ j → j < count → time i ≤ time j

-- What entry n does to the claim.
pub data Move (stage : ℕ → Stage) (now : ℕ → ℕ) (Acts Probes Announces Updates Upsets : ℕ → Type 0) (n : ℕ) : Type 0 where
  stays : stage (suc n) ≡ stage n → Move stage now Acts Probes Announces Updates Upsets n
  -- a start, a cut, a stop, an update that finds the claim not held, a conflicting response or a later probe heard
  drops : Upsets n → Unclaimed (stage (suc n)) → Move stage now Acts Probes Announces Updates Upsets n
  probes_first :
      Unclaimed (stage n) → Acts n → Probes n → stage (suc n) ≡ probing 1 (now n + probe_gap) → Move stage now Acts Probes Announces Updates Upsets n
  probes_again :
      (i u : ℕ) → stage n ≡ probing i u → i < 3 → u ≤ now n → Acts n → Probes n → stage (suc n) ≡ probing (suc i) (now n + probe_gap)
      → Move stage now Acts Probes Announces Updates Upsets n
  wins : (u : ℕ) → stage n ≡ probing 3 u → u ≤ now n → Acts n → Announces n → stage (suc n) ≡ held → Move stage now Acts Probes Announces Updates Upsets n
  -- an update of a holder, which begins another version of the record: it is held as from here
  revises : Updates n → Acts n → Announces n → stage (suc n) ≡ held → Move stage now Acts Probes Announces Updates Upsets n

pub record Course (K : Link) : Type 1 where
  -- the claim after the first n entries
  pub stage : ℕ → Stage
  -- of entry n: an accepted call of the responder, a start too; it sends the claim's probe; it multicasts the record; it is an update taken by a
  -- holder; it sets the claim back
  pub Acts : ℕ → Type 0
  pub Probes : ℕ → Type 0
  pub Announces : ℕ → Type 0
  pub Updates : ℕ → Type 0
  pub Upsets : ℕ → Type 0
  pub moves : (n : ℕ) → Move stage K.now Acts Probes Announces Updates Upsets n
  -- all clocks run at one rate
  pub one-rate : (m n : ℕ) → K.base ≤ m → K.base ≤ n → Acts m → Acts n → K.now m + K.time n ≡ K.now n + K.time m
  -- a step is at most 50 ms late; one that is overdue at the outset has until 50 ms after it
  pub on_time_lem :
      (m n u : ℕ) → K.base ≤ m → K.base ≤ n → n < K.count → Acts m → Due (stage n) u
      → (K.time n + K.now m ≤ u + lateness + K.time m) ⊎ (K.time n ≤ K.outset + lateness)
