-- Responders that claim one name and carry one record type, as the proof of uniqueness sees them: who sends, tells and hears what. A party is a responder
-- in one version of its record: from the start, or from an update of the record, up to the next; before and after, its stage is apart.
-- Nothing is said of packets, states or calls. Assumes nothing.
use mathlib.Core.Path.{◌≡◌}
use mathlib.Core.Logic.{◌⊎◌}
use Prim.Native.Nat.{ℕ, suc, ◌+◌, ◌≤◌, ◌<◌}
use Rattle.link.specs.Premises.{delivery_time}
use Rattle.link.specs.Laws.{held, Unclaimed}
use Rattle.link.proofs.Course.{Probing, Link, Course}

-- A packet sent at entry i is taken at entry `at`, before entry j and in time.
pub record Taken (time : ℕ → ℕ) (At : ℕ → Type 0) (i j : ℕ) : Type 0 where
  pub at : ℕ
  pub after : i < at
  pub before : at < j
  pub soon : time at ≤ time i + delivery_time
  pub takes : At at

pub record Contest : Type 1 where
  pub link : Link
  pub Party : Type 0
  pub course : Party → Course link
  -- d tells e its record at entry n: by multicast, or by unicast to e
  pub Tells : Party → Party → ℕ → Type 0
  -- all records of d's claim after the first n entries, which its probe lists; an update of another type changes them too
  pub Records : Type 0
  pub records : Party → ℕ → Records
  pub Later : Records → Records → Type 0
  -- of d, e and entry n: d hears a probe of e that lists r; d hears a response with e's record
  pub HearsProbe : Party → Party → Records → ℕ → Type 0
  pub HearsRecord : Party → Party → ℕ → Type 0
  -- d and e are two responders, with different data
  pub Differ : Party → Party → Type 0
  -- data
  pub differ_sym : (d e : Party) → Differ d e → Differ e d
  pub tie :
      (d e : Party) (m n : ℕ) → Differ d e → Probing ((course d).stage m) → Probing ((course e).stage n)
      → Later (records d m) (records e n) ⊎ Later (records e n) (records d m)
  -- the calls
  pub one-actor : (d e : Party) (n : ℕ) → Differ d e → (course d).Acts n → (course e).Acts n → ⊥
  pub steady : (d : Party) (n : ℕ) → Probing ((course d).stage n) → Probing ((course d).stage (suc n)) → records d (suc n) ≡ records d n
  pub tells_all : (d e : Party) (n : ℕ) → (course d).Announces n → Tells d e n
  -- what is done with what is heard
  pub yields : (d e : Party) (n : ℕ) → Differ d e → HearsRecord d e n → Unclaimed ((course d).stage (suc n))
  pub defers :
      (d e : Party) (r : Records) (n : ℕ) → Differ d e → HearsProbe d e r n → Later r (records d n) → Probing ((course d).stage n)
      → Unclaimed ((course d).stage (suc n))
  pub defends : (d e : Party) (r : Records) (n : ℕ) → Differ d e → HearsProbe d e r n → (course d).stage n ≡ held → Tells d e n
  -- what is sent is heard, by claims that are probing or held
  pub probe-heard :
      (d e : Party) (i j : ℕ) → link.base ≤ i → i < j → Differ d e → j < link.count → (course d).Probes i → (Unclaimed ((course e).stage i) → ⊥)
      → (Unclaimed ((course e).stage j) → ⊥) → link.time i + delivery_time < link.time j → Taken link.time (HearsProbe e d (records d i)) i j
  pub record_heard :
      (d e : Party) (i j : ℕ) → link.base ≤ i → i < j → Differ d e → j < link.count → Tells d e i → (Unclaimed ((course e).stage i) → ⊥)
      → (Unclaimed ((course e).stage j) → ⊥) → link.time i + delivery_time < link.time j → Taken link.time (HearsRecord e d) i j
