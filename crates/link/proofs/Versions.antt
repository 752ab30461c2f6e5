-- A claim's course in one version of a record: as the claim's own while the version is in force, and apart before and after. A version is named by the
-- position of the start or of the update that began it. Assumes nothing.
use mathlib.Core.Path.{◌≡◌, refl, sym, ◌∙◌}
use mathlib.Core.Option.{Option, some}
use mathlib.Core.Option as option
use Prim.Native.Nat.{ℕ, suc}
use native.Mathlib.Decide.{ℕ_discrete}
use Rattle.link.specs.Laws.{Stage, waiting, probing, held, apart, Unclaimed}
use Rattle.link.proofs.Lists.{clash}
use Rattle.link.proofs.Course.{Due, first, further, Link, Course, Move, stays, drops, probes_first, probes_again, wins, revises}

-- What entry n does to the record's version.
pub data Turn (K : Link) (C : Course K) (version : ℕ → Option ℕ) (Shows Updates : ℕ → Type 0) (n : ℕ) : Type 0 where
  goes_on_lem : version (suc n) ≡ version n → Turn K C version Shows Updates n
  -- a start, or an update of the record that finds the claim not held
  begins : version (suc n) ≡ some n → Unclaimed (C.stage (suc n)) → Turn K C version Shows Updates n
  -- an update of the record by a holder, which multicasts it
  renews : version (suc n) ≡ some n → Updates n → C.Acts n → Shows n → C.stage (suc n) ≡ held → Turn K C version Shows Updates n

-- the stage in force, or apart
abbrev pub inside : {A : Type 0} → Dec A → Stage → Stage
inside (yes a) f = f
inside (no a) f = apart

module _
    (K : Link) (C : Course K) (version : ℕ → Option ℕ) (Shows Updates : ℕ → Type 0)
    (turns : (n : ℕ) → Turn K C version Shows Updates n)
    -- an announcement shows the record; a claim as a whole has no versions
    (shows : (n : ℕ) → C.Announces n → Shows n)
    (whole : (n : ℕ) → C.Updates n → ⊥)
    (v : ℕ)
  where
    open C use {stage, Acts, Probes, moves}

    in_force : (n : ℕ) → Dec (version n ≡ some v)
    in_force n = option.discrete ℕ_discrete (version n) (some v)

    pub stage_in : ℕ → Stage
    stage_in n = inside (in_force n) (stage n)

    -- in force, the stage is the claim's; and a claim that is probing or held in the version is in force
    pub here : (n : ℕ) → version n ≡ some v → stage_in n ≡ stage n
    unfolding in_force stage_in
    here n e = go (in_force n)
      where
        go : (p : Dec (version n ≡ some v)) → inside p (stage n) ≡ stage n
        go (yes p) = refl
        go (no p) = absurd (p e)

    pub claimed : (n : ℕ) → (Unclaimed (stage_in n) → ⊥) → version n ≡ some v
    unfolding in_force stage_in
    claimed n f = go (in_force n) f
      where
        go : (p : Dec (version n ≡ some v)) → (Unclaimed (inside p (stage n)) → ⊥) → version n ≡ some v
        go (yes p) g = p
        go (no p) g = absurd (g tt)

    -- out of force it is neither probing nor held
    pub unclaimed : (n : ℕ) → (version n ≡ some v → Unclaimed (stage n)) → Unclaimed (stage_in n)
    unfolding in_force stage_in
    unclaimed n f = go (in_force n)
      where
        go : (p : Dec (version n ≡ some v)) → Unclaimed (inside p (stage n))
        go (yes p) = f p
        go (no p) = tt

    -- entry n multicasts the record in this version
    abbrev pub ShowsIt : ℕ → Type 0
    ShowsIt n = Shows n × (version (suc n) ≡ some v)

    abbrev Moves : ℕ → Type 0
    Moves n = Move stage_in K.now Acts Probes ShowsIt Updates (λ m. Unit {0}) n

    -- in force before and after
    on : (n : ℕ) → version (suc n) ≡ some v → stage_in n ≡ stage n → stage_in (suc n) ≡ stage (suc n) → Moves n
    on n q a b = go (moves n)
      where
        go : Move stage K.now Acts Probes C.Announces C.Updates C.Upsets n → Moves n
        go (stays e) = stays (b ∙ e ∙ sym a)
        go (drops z u) = drops tt (rw b u)
        go (probes_first z c p e) = probes_first (rw a z) c p (b ∙ e)
        go (probes_again i u f l t c p e) = probes_again i u (a ∙ f) l t c p (b ∙ e)
        go (wins u f t c s e) = wins u (a ∙ f) t c (shows n s, q) (b ∙ e)
        go (revises r c s e) = absurd (whole n r)

    -- in force since entry n
    fresh : (n : ℕ) → (version n ≡ some v → ⊥) → version (suc n) ≡ some v → stage_in (suc n) ≡ stage (suc n) → Turn K C version Shows Updates n → Moves n
    fresh n f g b (goes_on_lem e) = absurd (f (sym e ∙ g))
    fresh n f g b (begins e u) = drops tt (rw b u)
    fresh n f g b (renews e r c s h) = revises r c (s, g) (b ∙ h)

    pub moved : (n : ℕ) → Moves n
    unfolding in_force stage_in
    moved n = go (in_force n) (in_force (suc n)) refl refl
      where
        go : (p : Dec (version n ≡ some v)) (q : Dec (version (suc n) ≡ some v)) → stage_in n ≡ inside p (stage n)
            → stage_in (suc n) ≡ inside q (stage (suc n)) → Moves n
        go (yes p) (yes q) a b = on n q a b
        go (no p) (yes q) a b = fresh n p q b (turns n)
        go (yes p) (no q) a b = drops tt (rw b tt)
        go (no p) (no q) a b = stays (b ∙ sym a)

    pub due_in_lem : (n u : ℕ) → Due (stage_in n) u → Due (stage n) u
    unfolding in_force stage_in
    due_in_lem n u e = go (in_force n) refl e
      where
        go : (p : Dec (version n ≡ some v)) → stage_in n ≡ inside p (stage n) → Due (stage_in n) u → Due (stage n) u
        go (yes p) a (first e) = first (sym a ∙ e)
        go (yes p) a (further i e) = further i (sym a ∙ e)
        go (no p) a (first e) = clash (let z : apart ≡ waiting u = sym a ∙ e in cc)
        go (no p) a (further i e) = clash (let z : apart ≡ probing i u = sym a ∙ e in cc)

    unfoldable pub in_version : Course K
    in_version =
        record {
          stage = stage_in;
          Acts = Acts;
          Probes = Probes;
          Announces = ShowsIt;
          Updates = Updates;
          Upsets = λ n. Unit {0};
          moves = moved;
          one-rate = C.one-rate;
          on_time_lem = λ m n u bm bn h a e. C.on_time_lem m n u bm bn h a (due_in_lem n u e);
        }
