-- A lawful responder's claim along the list is a course (Course.antt), and a claim that is held holds by the packets. Assumes nothing.
use mathlib.Core.Path.{◌≡◌, refl, sym, ◌∙◌, ap, subst}
use mathlib.Core.Logic.{inl, ⊎_elim}
use mathlib.Core.Bool.{Bool, true, false, not, ◌&&◌, ◌||◌}
use mathlib.Core.Option.{Option, none, some}
use mathlib.Core.List.{List}
use Prim.Native.Nat.{ℕ, zero, suc, ◌+◌}
use native.Mathlib.Omega.{arith}
use native.Mathlib.Decide.{ℕ_discrete}
use lib.ListN.{length}
use lib.Dec.{eqb}
use borrow.Author.Tests.{eq-eqb}
use Rattle.link.specs.Responder.{Responder, everyone, Parcel, Claim, instance}
use Rattle.link.specs.Entries.{Entry, time_at, clock_at, owner_at, after, is_some, runs, sent_at, data_at, update_at}
use Rattle.link.specs.Premises.{Among, due_in}
use Rattle.link.specs.Holding.{is_and, any_of, responds_for, conflicts_with, defeats_of, writes, hears, holds}
use Rattle.link.specs.Laws.{probe_gap, Stage, waiting, probing, held, apart, Unclaimed, Step, time_of, Rules, to_all, data_after, next, out, Move as Act, stays as remains, probes_first as sends_first, probes_again as sends_again, wins as gains, restarts, hears_conflict, hears_later, Lawful, Stage-discrete}
use Rattle.link.proofs.Course.{Due, first, further, Link, Course, Move, stays, drops, probes_first, probes_again, wins}
use Rattle.link.proofs.Came as came
use Rattle.link.proofs.Lists.{clash, and_both, or_right, any_of_lem, is-of}
use Rattle.link.proofs.States.{Calls, Event, idle, ends, begins, moves, event, called-accepted}
use Rattle.link.specs.Joined.{CallOf, PremisesFrom}
use Rattle.link.proofs.Order.{in_order_lem}
use Rattle.link.proofs.Steps.{Sends, act, sends, data_left}
use Rattle.link.proofs.Stages.{stage_of_lem, stage_before, stage_after, move-of, yielded, deferred}
use Rattle.link.proofs.Held as by_packets

module _ (D : Responder) (es : List (Entry D)) (base outset : ℕ) (P : PremisesFrom D es base outset) where
  unfoldable pub list : Link
  list =
      record {
        count = length es;
        time = time_at D es;
        now = clock_at D es;
        base = base;
        outset = outset;
        since = P.since;
        in_order_lem = in_order_lem D es base outset P;
      }

module _ (D : Responder) (R : Rules D) (es : List (Entry D)) (d : ℕ) (k : Claim) where
  open D use {Setup, Message, Update}

  -- the probe of the claim, by the data at entry n
  pub record OwnProbe (n : ℕ) (m : Message) : Type 0 where
    pub setup : Setup
    pub has : data_at D es d n ≡ some setup
    pub is : m ≡ R.probe setup k

  -- a response with all records of the claim
  pub record Whole (n : ℕ) (m : Message) : Type 0 where
    pub setup : Setup
    pub has : data_at D es d n ≡ some setup
    pub left : data_at D es d (suc n) ≡ some setup
    pub all : (type : ℕ) (a : List ℕ) → D.rdata setup k type ≡ some a → R.Carries m setup k type
    pub under : D.responds m (D.name setup k) ≡ true

  -- what sets a claim back
  pub data Upsets (n : ℕ) : Type 0 where
    begun : n ≡ d → Upsets n
    ended : after D es d (suc n) ≡ none → Upsets n
    contradicted : hears D es d (λ s. conflicts_with D s k) n ≡ true → Upsets n
    defeated : hears D es d (λ s. defeats_of D s k) n ≡ true → Upsets n
    restarted :
        (new : Update) → owner_at D es n ≡ d → update_at D es n ≡ some new → instance ≡ k → (stage_of_lem D R (after D es d n) k ≡ held → ⊥) → Upsets n

module _
    (D : Responder) (R : Rules D) (L : Lawful D R) (es : List (Entry D)) (base outset : ℕ) (P : PremisesFrom D es base outset) (d : ℕ) (k : Claim)
  where
    open D use {Setup, State, Arrival, Message, Update}

    abbrev now : ℕ → ℕ
    now n = clock_at D es n

    abbrev pub stage : ℕ → Stage
    stage n = stage_of_lem D R (after D es d n) k

    abbrev pub Probes : ℕ → Type 0
    Probes n = Sends D es d n everyone (OwnProbe D R es d k n)

    abbrev pub Announces : ℕ → Type 0
    Announces n = Sends D es d n everyone (Whole D R es d k n)

    abbrev Moves : ℕ → Type 0
    Moves n = Move stage now (CallOf D es d) Probes Announces (λ m. ⊥) (Upsets D R es d k) n

    pub acts : (n : ℕ) → Calls D es d n → CallOf D es d n
    acts n c = record { whose = c.whose; not_refused = inl (called-accepted D es d n c) }

    called : (n : ℕ) (c : Calls D es d n) (s : Setup) → data_at D es d n ≡ some s → Moves n
    unfolding conflicts_with defeats_of
    called n c s has = go (move-of D R L es d n s has c k)
      where
        taken : Step D
        taken = (act D R L es d n c).step

        before : stage n ≡ R.stage c.state k
        before = stage_before D R L es d n s has c k

        behind : stage (suc n) ≡ R.stage (next D R c.state taken) k
        behind = stage_after D R L es d n s has c k

        probes : Among (to_all (R.probe s k)) (out D R c.state taken) → Probes n
        probes h = sends D R L es d n c everyone (OwnProbe D R es d k n) (R.probe s k) h (record { setup = s; has = has; is = refl })

        clock : time_of D taken ≡ now n
        clock = (act D R L es d n c).clock

        go : Act D R s c.state taken k → Moves n
        go (remains e) = stays (behind ∙ e ∙ sym before)
        go (sends_first a h e) = probes_first (subst Unclaimed (sym before) a) (acts n c) (probes h) (behind ∙ e ∙ (λ i. probing 1 (clock i + probe_gap)))
        go (sends_again i u was l late h e) =
            probes_again i u (before ∙ was) l (omega (arith, clock)) (acts n c) (probes h) (behind ∙ e ∙ (λ j. probing (suc i) (clock j + probe_gap)))
        go (gains t u tk was late an e) =
            wins u (before ∙ was) (omega (arith, clock)) (acts n c)
            (sends D R L es d n c everyone (Whole D R es d k n) an.message an.sent
            (record {
              setup = s;
              has = has;
              left = data_left D R L es d n s has c ∙ ap (λ (t : Step D). some (data_after D t s)) tk;
              all = an.all;
              under = an.under;
            }))
            (behind ∙ e)
        go (restarts new u e a f w l) =
            drops (restarted new c.whose (by_packets.new_of D R L es d k n c new e) a (λ h. f (sym before ∙ h))) (subst Unclaimed (sym (behind ∙ w)) tt)
        go (hears_conflict a m e h) =
            drops (contradicted (by_packets.hears_of D R L es d k n s has c (λ (t : Setup) (b : Message). D.conflicts b t k) a m e h))
            (yielded D R L es d n s has c k a m e h)
        go (hears_later a m i u e h was) =
            drops (defeated (by_packets.hears_of D R L es d k n s has c (λ (t : Setup) (b : Message). D.defeats b t k) a m e h))
            (deferred D R L es d n s has c k a m i u e h was)

    pub moved : (n : ℕ) → Event D es d n → Moves n
    moved n (idle p g) = stays (ap (λ (o : Option State). stage_of_lem D R o k) p)
    moved n (ends p) = drops (ended p) (subst (λ (a : Option State). Unclaimed (stage_of_lem D R a k)) (sym p) tt)
    moved n (begins t w draw x o e q p) =
        drops (begun o)
        (subst (λ (a : Option State). Unclaimed (stage_of_lem D R a k)) (sym p) (subst Unclaimed (sym ((L.begun t w draw x q).waits k)) tt))
    moved n (moves c p) = called n c (act D R L es d n c).setup (act D R L es d n c).has

    pub due_in_lem : (o : Option State) (u : ℕ) → Due (stage_of_lem D R o k) u → Among u (due_in D o)
    due_in_lem none u (first e) = clash (let z : apart ≡ waiting u = e in cc)
    due_in_lem none u (further i e) = clash (let z : apart ≡ probing i u = e in cc)
    due_in_lem (some x) u (first e) = L.due_waiting x k u e
    due_in_lem (some x) u (further i e) = L.due_probing x k i u e

    unfoldable pub course : Course (list D es base outset P)
    unfolding list
    course =
        record {
          stage = stage;
          Acts = CallOf D es d;
          Probes = Probes;
          Announces = Announces;
          Updates = λ n. ⊥;
          Upsets = Upsets D R es d k;
          moves = λ n. moved n (event D es d n);
          one-rate = P.one_rate d;
          on_time_lem = λ m n u bm bn h a e. P.on_time d m n u bm bn h a (due_in_lem (after D es d n) u e);
        }

    -- a held claim's responder runs
    pub runs-held : (n : ℕ) → stage n ≡ held → runs D es d n ≡ true
    runs-held n e = go (after D es d n) refl
      where
        go : (o : Option State) → after D es d n ≡ o → is_some o ≡ true
        go none f = clash (let z : apart ≡ held = ap (λ (a : Option State). stage_of_lem D R a k) (sym f) ∙ e in cc)
        go (some x) f = refl

    -- and it holds by the packets: an announcement began the holding, and nothing heard ended it
    pub held-holds : (n : ℕ) → stage n ≡ held → holds D es d k n ≡ true
    unfolding holds writes responds_for after list course
    held-holds zero e = clash (let z : apart ≡ held = e in cc)
    held-holds (suc n) e = go (Stage-discrete ℕ_discrete (stage n) held) (held-holds n)
      where
        hearing : Bool
        hearing = hears D es d (λ s. conflicts_with D s k) n

        quiet : (b : Bool) → (b ≡ true → Unclaimed (stage (suc n))) → not b ≡ true
        quiet true f = absurd (subst Unclaimed e (f refl))
        quiet false f = refl

        whole : (writes D es d k n || (not hearing && holds D es d k n)) ≡ true → holds D es d k (suc n) ≡ true
        whole h = and_both (runs D es d (suc n)) (writes D es d k n || (not hearing && holds D es d k n)) (runs-held (suc n) e) h

        announced : Announces n → holds D es d k (suc n) ≡ true
        announced v =
            let w : Whole D R es d k n v.message = v.says in
            let hit : is_and (λ (b : Message). D.responds b (D.name w.setup k)) (D.read v.parcel.bytes) ≡ true =
            is-of (λ (b : Message). D.responds b (D.name w.setup k)) (D.read v.parcel.bytes) v.message v.reads w.under
            in
            let wrote : writes D es d k n ≡ true =
            and_both (eqb (owner_at D es n) d)
            (is_and (λ (s : Setup). any_of (λ (q : Parcel). responds_for D s k q.bytes) (sent_at D es n)) (data_at D es d n))
            (eq-eqb (owner_at D es n) d v.whose)
            (is-of (λ (s : Setup). any_of (λ (q : Parcel). responds_for D s k q.bytes) (sent_at D es n)) (data_at D es d n) w.setup w.has
            (any_of_lem (λ (q : Parcel). responds_for D w.setup k q.bytes) v.parcel (sent_at D es n) v.sent hit))
            in
            whole (ap (λ (b : Bool). b || (not hearing && holds D es d k n)) wrote)

        go : Dec (stage n ≡ held) → (stage n ≡ held → holds D es d k n ≡ true) → holds D es d k (suc n) ≡ true
        go (yes h) ih =
            whole (or_right (writes D es d k n) (not hearing && holds D es d k n)
            (and_both (not hearing) (holds D es d k n) (quiet hearing (by_packets.contradicted D R L es d k n)) (ih h)))
        go (no h) ih =
            ⊎_elim (λ w. announced w.announces) (λ w. absurd w.updates)
            (came.how_held (list D es base outset P) course n h e (moved n (event D es d n)))
