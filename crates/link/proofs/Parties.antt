-- The contest of a rivalry's parties (Rivalry.antt, Contest.antt), and what it tells of the rivals: demand 3's first conclusion. Assumes nothing.
use mathlib.Core.Path.{◌≡◌, sym, ◌∙◌, subst}
use mathlib.Core.Logic.{◌≢◌, ◌⊎◌, inl, inr, ⊎_elim}
use mathlib.Core.Option.{none, some}
use Prim.Native.Nat.{ℕ, zero, suc, ◌+◌, ◌≤◌, ◌<◌}
use native.Mathlib.Omega.{arith}
use Rattle.link.specs.Premises.{delivery_time}
use Rattle.link.specs.Laws.{Stage, held, Unclaimed}
use Rattle.link.proofs.Lists.{clash}
use Rattle.link.proofs.Course.{Probing, Course}
use Rattle.link.proofs.Versions as versions
use Rattle.link.proofs.Versions.{Turn, goes_on_lem, begins, renews}
use Rattle.link.proofs.Contest.{Contest}
use Rattle.link.proofs.Probes.{probing_active, held-active, held-steady}
use Rattle.link.proofs.Together.{Lately, not-two_since}
use Rattle.link.proofs.Rivalry.{Rivalry}

-- d updated its record, as a holder, and no entry up to the next one comes more than 100 ms after that.
pub record Updated (G : Rivalry) (d : G.Rival) (n : ℕ) : Type 0 where
  pub at : ℕ
  pub from-base : G.link.base ≤ at
  pub at<n : at < n
  pub updates : G.Updates d at
  pub soon : (q : ℕ) → G.link.base ≤ q → q ≤ n → q < G.link.count → G.link.time q ≤ G.link.time at + delivery_time

module _ (G : Rivalry) where
  open G use {link, Rival, claim, Datum, datum, version, Updates, Shows, Two, records}
  open G.link use {count, base, time}

  -- a responder in one version of its record
  record Party : Type 0 where
    rival : Rival
    since : ℕ

  abbrev data_of : Party → Datum
  data_of p = datum p.rival (suc p.since)

  record Differ (p q : Party) : Type 0 where
    two : Two p.rival q.rival
    other : data_of p ≢ data_of q

  course : Party → Course link
  course p =
      versions.in_version link (claim p.rival) (version p.rival) (Shows p.rival) (Updates p.rival) (G.turns p.rival) (G.shows p.rival)
      (G.whole p.rival) p.since

  -- the data of a version are those that it began with
  same_data : (d : Rival) (v n : ℕ) → version d n ≡ some v → datum d n ≡ datum d (suc v)
  same_data d v zero e = clash (let z : none ≡ some v = sym (G.no_first d) ∙ e in cc)
  same_data d v (suc n) e = go (G.turns d n) (same_data d v n)
    where
      began : version d (suc n) ≡ some n → datum d (suc n) ≡ datum d (suc v)
      began f = let z : some n ≡ some v = sym f ∙ e in let y : n ≡ v = cc in λ i. datum d (suc (y i))

      go : Turn link (claim d) (version d) (Shows d) (Updates d) n → (version d n ≡ some v → datum d n ≡ datum d (suc v)) → datum d (suc n) ≡ datum d (suc v)
      go (goes_on_lem f) ih = G.keeps d n f ∙ ih (sym f ∙ e)
      go (begins f u) ih = began f
      go (renews f r c s h) ih = began f

  module _ (p : Party) (n : ℕ) where
    abbrev stage_in : Stage
    stage_in = (course p).stage n

    abbrev own : Stage
    own = (claim p.rival).stage n

    in_force : (Unclaimed stage_in → ⊥) → version p.rival n ≡ some p.since
    unfolding course versions.in_version
    in_force f =
        versions.claimed link (claim p.rival) (version p.rival) (Shows p.rival) (Updates p.rival) (G.turns p.rival) (G.shows p.rival)
        (G.whole p.rival) p.since n f

    here : version p.rival n ≡ some p.since → stage_in ≡ own
    unfolding course versions.in_version
    here e =
        versions.here link (claim p.rival) (version p.rival) (Shows p.rival) (Updates p.rival) (G.turns p.rival) (G.shows p.rival)
        (G.whole p.rival) p.since n e

    active : (Unclaimed stage_in → ⊥) → Unclaimed own → ⊥
    active f u = f (subst Unclaimed (sym (here (in_force f))) u)

    probing_own : Probing stage_in → Probing own
    probing_own w = (w.0, w.1, sym (here (in_force (probing_active stage_in w))) ∙ w.2)

    held-own : stage_in ≡ held → own ≡ held
    held-own e = sym (here (in_force (held-active stage_in e))) ∙ e

    data_here : (Unclaimed stage_in → ⊥) → datum p.rival n ≡ data_of p
    data_here f = same_data p.rival p.since n (in_force f)

    -- neither probing nor held in the version, if not so in force
    unclaimed : (version p.rival n ≡ some p.since → Unclaimed own) → Unclaimed stage_in
    unfolding course versions.in_version
    unclaimed f =
        versions.unclaimed link (claim p.rival) (version p.rival) (Shows p.rival) (Updates p.rival) (G.turns p.rival) (G.shows p.rival)
        (G.whole p.rival) p.since n f

  contest : Contest
  unfolding course versions.in_version
  contest =
      record {
        link = link;
        Party = Party;
        course = course;
        Tells = λ p q n. G.Tells p.rival q.rival (data_of p) n;
        Records = G.Records;
        records = λ p n. records p.rival n;
        Later = G.Later;
        HearsProbe = λ p q r n. G.HearsProbe p.rival q.rival r n;
        HearsRecord = λ p q n. G.HearsRecord p.rival q.rival (data_of q) n;
        Differ = Differ;
        differ_sym = λ p q f. record { two = G.two_sym p.rival q.rival f.two; other = λ e. f.other (sym e) };
        tie =
            λ p q m n f a b.
            G.tie p.rival q.rival m n f.two
            (λ e.
            f.other
            (sym (data_here p m (probing_active (stage_in p m) a)) ∙ e ∙ data_here q n (probing_active (stage_in q n) b)))
            (probing_own p m a) (probing_own q n b);
        one-actor = λ p q n f a b. G.one-actor p.rival q.rival n f.two a b;
        steady = λ p n a b. G.steady p.rival n (probing_own p n a) (probing_own p (suc n) b);
        tells_all =
            λ p q n s.
            subst (λ (a : Datum). G.Tells p.rival q.rival a n) (same_data p.rival p.since (suc n) s.1)
            (G.tells_all p.rival q.rival n s.0);
        yields =
            λ p q n f h.
            unclaimed p (suc n)
            (λ e.
            G.yields p.rival q.rival (data_of q) n f.two h
            (λ z. f.other (sym (same_data p.rival p.since (suc n) e) ∙ z)));
        defers = λ p q r n f h l a. unclaimed p (suc n) (λ e. G.defers p.rival q.rival r n f.two h l (probing_own p n a));
        defends =
            λ p q r n f h a.
            subst (λ (x : Datum). G.Tells p.rival q.rival x n) (data_here p n (held-active (stage_in p n) a))
            (G.defends p.rival q.rival r n f.two h (held-own p n a));
        probe-heard =
            λ p q i j b l f h s x y t. G.probe-heard p.rival q.rival i j b l f.two h s (active q i x) (active q j y) t;
        record_heard =
            λ p q i j b l f h s x y t.
            G.record_heard p.rival q.rival (data_of p) i j b l f.two h s (active q i x) (active q j y) t;
      }

  -- a rival that is probing or held, in the version of its record that is then in force
  party : (d : Rival) (n : ℕ) → (claim d).stage n ≡ held → Party
  party d n e = record { rival = d; since = (G.running d n (held-active ((claim d).stage n) e)).0 }

  module _ (d : Rival) (n : ℕ) (e : (claim d).stage n ≡ held) where
    now_in_force : version d n ≡ some (party d n e).since
    unfolding party
    now_in_force = (G.running d n (held-active ((claim d).stage n) e)).1

    party_held : (course (party d n e)).stage n ≡ held
    unfolding party
    party_held = here (party d n e) n now_in_force ∙ e

    party_data : datum d n ≡ data_of (party d n e)
    unfolding party
    party_data = same_data d (party d n e).since n now_in_force

  -- x was neither probing nor held at a moment a, and y was not probing at a moment b at or before a
  pub rivals-since :
      (a b n : ℕ) → base ≤ b → b ≤ a → a ≤ n → n ≤ count → (x y : Rival) → Two x y → Unclaimed ((claim x).stage a) → (Probing ((claim y).stage b) → ⊥)
      → (claim x).stage n ≡ held → (claim y).stage n ≡ held → datum x n ≢ datum y n → Updated G x n ⊎ Updated G y n
  unfolding party contest course versions.in_version
  rivals-since a b n bb l h in_List x y two u f p q other =
      ⊎_elim (λ w. inl (lately x n p w)) (λ w. inr (lately y n q w))
      (not-two_since contest a b n bb l h in_List (party x n p) (party y n q)
      (record { two = two; other = λ e. other (party_data x n p ∙ e ∙ sym (party_data y n q)) })
      (unclaimed (party x n p) a (λ e. u)) (λ w. f (probing_own (party y n q) b w)) (party_held x n p) (party_held y n q))
    where
      lately : (d : Rival) (m : ℕ) (e : (claim d).stage m ≡ held) → Lately contest (party d m e) m → Updated G d m
      lately d m e w = record { at = w.at; from-base = w.from-base; at<n = w.at<n; updates = w.updates; soon = w.soon }

  -- from the list's beginning
  pub unique :
      base ≡ 0 → ((d : Rival) → Unclaimed ((claim d).stage 0)) → (n : ℕ) → n ≤ count → (x y : Rival) → Two x y → (claim x).stage n ≡ held
      → (claim y).stage n ≡ held → datum x n ≢ datum y n → Updated G x n ⊎ Updated G y n
  unique z first n h x y two p q other =
      rivals-since 0 0 n (omega arith) (omega arith) (omega arith) h x y two (first x) (λ w. probing_active ((claim y).stage 0) w (first y)) p q other

  -- from any moment on, without updates: not after one was held and then, later, the other not
  pub joined :
      (i t : ℕ) → base ≤ i → i < t → (x y : Rival) → Two x y → ((n : ℕ) → base ≤ n → Updates x n → ⊥) → ((n : ℕ) → base ≤ n → Updates y n → ⊥)
      → (claim y).stage (suc i) ≡ held → Unclaimed ((claim x).stage (suc t)) → (n : ℕ) → t < n → n ≤ count → (claim x).stage n ≡ held
      → (claim y).stage n ≡ held → datum x n ≢ datum y n → ⊥
  joined i t b l x y two ux uy e u n g h p q other =
      ⊎_elim (λ (w : Updated G x n). ux w.at w.from-base w.updates) (λ (w : Updated G y n). uy w.at w.from-base w.updates)
      (rivals-since (suc t) (suc i) n (omega arith) (omega arith) (omega arith) h x y two u (held-steady ((claim y).stage (suc i)) e) p q other)
