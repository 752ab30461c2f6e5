-- Responders that claim one name and carry one record type, whose data may change by updates: what a list has to supply for a contest. Each responder in
-- each version of its record is a party of the contest (Versions.antt), so that nothing here speaks of versions but their beginnings. Assumes nothing.
use mathlib.Core.Path.{◌≡◌}
use mathlib.Core.Logic.{◌≢◌, ◌⊎◌}
use mathlib.Core.Option.{Option, none, some}
use Prim.Native.Nat.{ℕ, suc, ◌+◌, ◌≤◌, ◌<◌}
use Rattle.link.specs.Premises.{delivery_time}
use Rattle.link.specs.Laws.{held, Unclaimed}
use Rattle.link.proofs.Course.{Probing, Link, Course}
use Rattle.link.proofs.Versions.{Turn}
use Rattle.link.proofs.Contest.{Taken}

pub record Rivalry : Type 1 where
  pub link : Link
  -- the responders, and each one's claim; an update that finds it held leaves it held
  pub Rival : Type 0
  pub claim : Rival → Course link
  -- the record's data after the first n entries, and the start or update that they come from
  pub Datum : Type 0
  pub datum : Rival → ℕ → Datum
  pub version : Rival → ℕ → Option ℕ
  -- of d and entry n: it multicasts d's record; it is an update of the record by d, which holds
  pub Shows : Rival → ℕ → Type 0
  pub Updates : Rival → ℕ → Type 0
  -- all records of d's claim after the first n entries, which its probe lists
  pub Records : Type 0
  pub records : Rival → ℕ → Records
  pub Later : Records → Records → Type 0
  -- of d, e and entry n: d tells e its record with the data a; d hears a response with e's record with the data a; d hears a probe of e that lists r
  pub Tells : Rival → Rival → Datum → ℕ → Type 0
  pub HearsRecord : Rival → Rival → Datum → ℕ → Type 0
  pub HearsProbe : Rival → Rival → Records → ℕ → Type 0
  -- d and e are two responders with one name
  pub Two : Rival → Rival → Type 0
  -- data
  pub two_sym : (d e : Rival) → Two d e → Two e d
  pub tie :
      (d e : Rival) (m n : ℕ) → Two d e → datum d m ≢ datum e n → Probing ((claim d).stage m) → Probing ((claim e).stage n)
      → Later (records d m) (records e n) ⊎ Later (records e n) (records d m)
  -- versions
  pub no_first : (d : Rival) → version d 0 ≡ none
  pub running : (d : Rival) (n : ℕ) → (Unclaimed ((claim d).stage n) → ⊥) → (v : ℕ) × (version d n ≡ some v)
  pub turns : (d : Rival) (n : ℕ) → Turn link (claim d) (version d) (Shows d) (Updates d) n
  pub keeps : (d : Rival) (n : ℕ) → version d (suc n) ≡ version d n → datum d (suc n) ≡ datum d n
  pub whole : (d : Rival) (n : ℕ) → (claim d).Updates n → ⊥
  -- the calls
  pub one-actor : (d e : Rival) (n : ℕ) → Two d e → (claim d).Acts n → (claim e).Acts n → ⊥
  pub steady : (d : Rival) (n : ℕ) → Probing ((claim d).stage n) → Probing ((claim d).stage (suc n)) → records d (suc n) ≡ records d n
  pub shows : (d : Rival) (n : ℕ) → (claim d).Announces n → Shows d n
  pub tells_all : (d e : Rival) (n : ℕ) → Shows d n → Tells d e (datum d (suc n)) n
  -- what is done with what is heard
  pub yields : (d e : Rival) (a : Datum) (n : ℕ) → Two d e → HearsRecord d e a n → datum d (suc n) ≢ a → Unclaimed ((claim d).stage (suc n))
  pub defers :
      (d e : Rival) (r : Records) (n : ℕ) → Two d e → HearsProbe d e r n → Later r (records d n) → Probing ((claim d).stage n)
      → Unclaimed ((claim d).stage (suc n))
  pub defends : (d e : Rival) (r : Records) (n : ℕ) → Two d e → HearsProbe d e r n → (claim d).stage n ≡ held → Tells d e (datum d n) n
  -- what is sent is heard, by claims that are probing or held
  pub probe-heard :
      (d e : Rival) (i j : ℕ) → link.base ≤ i → i < j → Two d e → j < link.count → (claim d).Probes i → (Unclaimed ((claim e).stage i) → ⊥)
      → (Unclaimed ((claim e).stage j) → ⊥) → link.time i + delivery_time < link.time j → Taken link.time (HearsProbe e d (records d i)) i j
  pub record_heard :
      (d e : Rival) (a : Datum) (i j : ℕ) → link.base ≤ i → i < j → Two d e → j < link.count → Tells d e a i → (Unclaimed ((claim e).stage i) → ⊥)
      → (Unclaimed ((claim e).stage j) → ⊥) → link.time i + delivery_time < link.time j → Taken link.time (HearsRecord e d a) i j
