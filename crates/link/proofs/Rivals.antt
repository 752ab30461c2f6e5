-- Lawful responders that claim one name and carry one record type make a rivalry (Rivalry.antt): so no two of them with different data have held claims at
-- once, but just after an update. Assumes nothing.
use mathlib.Core.Path.{◌≡◌, refl, sym, ◌∙◌, ap, subst}
use mathlib.Core.Logic.{◌≢◌, ◌⊎◌, inl, inr, ⊎_elim}
use mathlib.Core.Bool.{Bool, true, false}
use mathlib.Core.Option.{Option, none, some}
use mathlib.Core.List.{List}
use Prim.Native.Nat.{ℕ, zero, suc, ◌+◌, ◌≤◌, ◌<◌}
use native.Mathlib.Omega.{arith}
use native.Mathlib.Decide.{ℕ_discrete}
use lib.ListN.{length}
use Rattle.link.specs.Responder.{Responder, Destination, everyone, unicast, Claim, instance, Claim-discrete, Answer, refused, accepted}
use Rattle.link.specs.Entries.{Entry, Call, starts, ticks as ticks-call, receives, stops, updates as updates-call, cut, time_at, owner_at, call_at, reply_at, setup_in, setup_of, after, is_some, source_at, revised, data_at, update_in, update_at}
use Rattle.link.specs.Premises.{delivery_time, Reaches, Delivered}
use Rattle.link.specs.Laws.{most_draw, Stage, waiting, probing, held, Unclaimed, Step, ticks, hears, serves, updates, data_after, next, Rules, Tells as Answers, Lawful}
use Rattle.link.proofs.Course.{Probing, Course}
use Rattle.link.proofs.Contest.{Taken}
use Rattle.link.proofs.Versions.{Turn, goes_on_lem, begins as begins-turn, renews}
use Rattle.link.proofs.Probes.{probing_active}
use Rattle.link.proofs.Rivalry.{Rivalry}
use Rattle.link.proofs.Parties.{Updated, unique, joined}
use Rattle.link.proofs.Lists.{clash}
use Rattle.link.proofs.States.{Calls, Event, idle, ends, begins, moves, event, start-owner, not-before, after-start, sender, calls_as, updater, starter, left, owned-data, data_passed}
use Rattle.link.specs.Joined.{PremisesFrom}
use Rattle.link.proofs.Order.{taken-before}
use Rattle.link.proofs.Data.{record_in, Kin, kin}
use Rattle.link.proofs.Steps.{Sends, Hears, hearer_calls, act, update-step, owned, of_state, sends, data_left, heard-step}
use Rattle.link.proofs.Stages.{stage_of_lem, ready_as, stage_before, stage_after, yielded, deferred}
use Rattle.link.proofs.Claims as claims

module _ (D : Responder) (R : Rules D) (L : Lawful D R) (es : List (Entry D)) (base outset : ℕ) (P : PremisesFrom D es base outset) (k : Claim) (type : ℕ) where
  open D use {Setup, State, Arrival, Message, Update}

  -- a responder that carries the type
  pub record Party : Type 0 where
    pub at : ℕ
    pub first : Setup
    pub started : setup_of D es at ≡ some first
    pub datum : List ℕ
    pub has : D.rdata first k type ≡ some datum

  -- two responders with one name
  pub record Two (d e : Party) : Type 0 where
    pub two : d.at ≢ e.at
    pub same : D.same_name (D.name d.first k) (D.name e.first k) ≡ true

  two_sym : (d e : Party) → Two d e → Two e d
  two_sym d e f = record { two = λ q. f.two (sym q); same = L.name_sym (D.name d.first k) (D.name e.first k) f.same }

  abbrev pub stage : Party → ℕ → Stage
  stage d n = stage_of_lem D R (after D es d.at n) k

  abbrev record_in_lem : Option Setup → Option (List ℕ)
  record_in_lem = record_in D k type

  abbrev pub datum : Party → ℕ → Option (List ℕ)
  datum d n = record_in_lem (data_at D es d.at n)

  -- ---- data

  -- what is known of a responder's data
  record Known (d : Party) (s : Setup) : Type 0 where
    named : D.name s k ≡ D.name d.first k
    value : List ℕ
    has : D.rdata s k type ≡ some value

  known : (d : Party) (n : ℕ) (s : Setup) → data_at D es d.at n ≡ some s → Known d s
  known d n s e =
      let q : Kin D R L es d.at k type s = kin D R L es d.at k type n s e in
      let z : some q.first ≡ some d.first = sym q.started ∙ d.started in
      let y : q.first ≡ d.first = cc in
      let r = q.onward d.datum (ap (λ (t : Setup). D.rdata t k type) y ∙ d.has) in
      record { named = q.named ∙ ap (λ (t : Setup). D.name t k) y; value = r.0; has = r.1 }

  -- the data of a claim that is probing or held
  record Current (d : Party) (n : ℕ) : Type 0 where
    setup : Setup
    is : data_at D es d.at n ≡ some setup
    valid : R.Valid setup
    knows : Known d setup

  current : (d : Party) (n : ℕ) → (Unclaimed (stage d n) → ⊥) → Current d n
  current d n f = go (after D es d.at n) refl f
    where
      go : (o : Option State) → after D es d.at n ≡ o → (Unclaimed (stage_of_lem D R o k) → ⊥) → Current d n
      go none e g = absurd (g tt)
      go (some x) e g =
          let o = owned D R L es d.at n x e in
          record { setup = o.setup; is = o.has; valid = L.valid x o.setup o.of; knows = known d n o.setup o.has }

  same_name_lem : (d e : Party) (s t : Setup) → Two d e → Known d s → Known e t → D.same_name (D.name s k) (D.name t k) ≡ true
  same_name_lem d e s t f p q =
      ap (λ (a : List ℕ). D.same_name a (D.name t k)) p.named ∙ ap (λ (a : List ℕ). D.same_name (D.name d.first k) a) q.named ∙ f.same

  -- ---- records and probes

  -- a response with d's record of these data
  pub record HasRecord (d : Party) (a : Option (List ℕ)) (m : Message) : Type 0 where
    pub setup : Setup
    pub valid : R.Valid setup
    pub named : D.name setup k ≡ D.name d.first k
    pub value : List ℕ
    pub has : D.rdata setup k type ≡ some value
    pub is : a ≡ some value
    pub carries : R.Carries m setup k type

  abbrev Shows : Party → ℕ → Type 0
  Shows d n = Sends D es d.at n everyone (HasRecord d (datum d (suc n)))

  -- d sends its record to a place where e gets it
  pub record Tells (d e : Party) (a : Option (List ℕ)) (n : ℕ) : Type 0 where
    pub to : Destination
    pub reaches : Reaches D P.address e.at to
    pub sends : Sends D es d.at n to (HasRecord d a)

  -- a claim's probe, and the test that a probe is later than its records
  abbrev Records : Type 0
  Records = Option Message × (Message → Bool)

  abbrev records-in : Option Setup → Records
  records-in none = (none, λ m. false)
  records-in (some s) = (some (R.probe s k), λ m. D.defeats m s k)

  abbrev records : Party → ℕ → Records
  records d n = records-in (data_at D es d.at n)

  abbrev Later : Records → Records → Type 0
  Later r q = (m : Message) × (r.0 ≡ some m) × (q.1 m ≡ true)

  pub record HearsProbe (d e : Party) (r : Records) (n : ℕ) : Type 0 where
    pub setup : Setup
    pub valid : R.Valid setup
    pub named : D.name setup k ≡ D.name e.first k
    pub value : List ℕ
    pub has : D.rdata setup k type ≡ some value
    pub is : r.0 ≡ some (R.probe setup k)
    pub hears : Hears D es d.at n (λ m. m ≡ R.probe setup k)
    pub source : source_at D es n ≡ P.address e.at

  tie :
      (d e : Party) (m n : ℕ) → Two d e → datum d m ≢ datum e n → Probing (stage d m) → Probing (stage e n)
      → Later (records d m) (records e n) ⊎ Later (records e n) (records d m)
  tie d e m n f o p q =
      let s : Current d m = current d m (probing_active (stage d m) p) in
      let t : Current e n = current e n (probing_active (stage e n) q) in
      let ds : datum d m ≡ some s.knows.value = ap record_in_lem s.is ∙ s.knows.has in
      let dt : datum e n ≡ some t.knows.value = ap record_in_lem t.is ∙ t.knows.has in
      ⊎_elim
      (λ (w : D.defeats (R.probe s.setup k) t.setup k ≡ true).
      let r : Later (records d m) (records e n) = (
        R.probe s.setup k,
        ap (λ (x : Option Setup). (records-in x).0) s.is,
        ap (λ (x : Option Setup). (records-in x).1 (R.probe s.setup k)) t.is ∙ w,
      )
      in
      inl r)
      (λ (w : D.defeats (R.probe t.setup k) s.setup k ≡ true).
      let r : Later (records e n) (records d m) = (
        R.probe t.setup k,
        ap (λ (x : Option Setup). (records-in x).0) t.is,
        ap (λ (x : Option Setup). (records-in x).1 (R.probe t.setup k)) s.is ∙ w,
      )
      in
      inr r)
      (L.tie s.setup t.setup k type s.knows.value t.knows.value s.valid t.valid
      (same_name_lem d e s.setup t.setup f s.knows t.knows)
      s.knows.has t.knows.has (λ z. o (ds ∙ ap some z ∙ sym dt)))

  -- ---- an accepted call

  module _ (d : Party) (n : ℕ) (c : Calls D es d.at n) where
    abbrev taken : Step D
    taken = (act D R L es d.at n c).step

    abbrev data_then : Setup
    data_then = (act D R L es d.at n c).setup

    has-then : data_at D es d.at n ≡ some data_then
    has-then = (act D R L es d.at n c).has

    knows_then : Known d data_then
    knows_then = known d n data_then has-then

    -- an update of the claim leaves it held, if it was, and announces; else neither probing nor held
    renewing :
        (new : Update) → taken ≡ updates new → instance ≡ k
        → Unclaimed (stage d (suc n))
        ⊎ ((stage d n ≡ held) × (stage d (suc n) ≡ held) × Answers D R (D.revise new data_then) c.state taken k (D.changes new) everyone)
    renewing new e a =
        let behind : stage d (suc n) ≡ R.stage (next D R c.state taken) k = stage_after D R L es d.at n data_then has-then c k in
        let before : stage d n ≡ R.stage c.state k = stage_before D R L es d.at n data_then has-then c k in
        let law = L.renewed data_then c.state new (ready_as D R L es d.at n data_then has-then c (updates new) e) in
        ⊎_elim
        (λ (w : (u : ℕ) × (R.stage (next D R c.state (updates new)) instance ≡ waiting u) × (u ≤ D.update_time new + most_draw)).
        inl (subst Unclaimed (sym behind)
        (subst (λ (t : Step D). Unclaimed (R.stage (next D R c.state t) k)) (sym e)
        (subst (λ (l : Claim). Unclaimed (R.stage (next D R c.state (updates new)) l)) a (subst Unclaimed (sym w.1) tt)))))
        (λ (w : (R.stage c.state instance ≡ held) × (R.stage (next D R c.state (updates new)) instance ≡ held)
        × Answers D R (D.revise new data_then) c.state (updates new) instance (D.changes new) everyone).
        inr (
          before ∙ subst (λ (l : Claim). R.stage c.state l ≡ held) a w.0,
          behind
              ∙ subst (λ (t : Step D). R.stage (next D R c.state t) k ≡ held) (sym e)
              (subst (λ (l : Claim). R.stage (next D R c.state (updates new)) l ≡ held) a w.1),
          subst (λ (t : Step D). Answers D R (D.revise new data_then) c.state t k (D.changes new) everyone) (sym e)
              (subst (λ (l : Claim). Answers D R (D.revise new data_then) c.state (updates new) l (D.changes new) everyone) a w.2),
        ))
        law

  -- while probing the records stay
  steady : (d : Party) (n : ℕ) → Probing (stage d n) → Probing (stage d (suc n)) → records d (suc n) ≡ records d n
  steady d n p q = go (event D es d.at n)
    where
      no_more : after D es d.at (suc n) ≡ none → ⊥
      no_more e = probing_active (stage d (suc n)) q (subst (λ (a : Option State). Unclaimed (stage_of_lem D R a k)) (sym e) tt)

      by : (c : Calls D es d.at n) (t : Step D) → taken d n c ≡ t → records d (suc n) ≡ records-in (some (data_after D t (data_then d n c)))
          → records d (suc n) ≡ records d n
      by c (ticks t) e f = f ∙ ap records-in (sym (has-then d n c))
      by c (serves a m) e f = f ∙ ap records-in (sym (has-then d n c))
      by c (hears a m) e f = f ∙ ap records-in (sym (has-then d n c))
      by c (updates new) e f = split (Claim-discrete instance k)
        where
          split : Dec (instance ≡ k) → records d (suc n) ≡ records d n
          split (yes a) =
              absurd
              (⊎_elim (λ w. probing_active (stage d (suc n)) q w)
              (λ w. clash (let z : held ≡ probing q.0 q.1 = sym w.1 ∙ q.2 in cc))
              (renewing d n c new e a))
          split (no a) =
              let r = L.revise_probe new (data_then d n c) k a in
              f ∙ (λ i. (some (r.0 i), λ m. r.1 m i)) ∙ ap records-in (sym (has-then d n c))

      go : Event D es d.at n → records d (suc n) ≡ records d n
      go (idle e g) = ap records-in g
      go (ends e) = absurd (no_more e)
      go (begins t w draw x o e f g) =
          absurd
          (probing_active (stage d (suc n)) q
          (subst (λ (a : Option State). Unclaimed (stage_of_lem D R a k)) (sym g) (subst Unclaimed (sym ((L.begun t w draw x f).waits k)) tt)))
      go (moves c e) =
          by c (taken d n c) refl (ap records-in (data_left D R L es d.at n (data_then d n c) (has-then d n c) c))

  -- ---- what a responder does with what it hears

  module _ (d e : Party) (n : ℕ) (both : Two e d) where
    yields : (a : Option (List ℕ)) → Hears D es d.at n (HasRecord e a) → datum d (suc n) ≢ a → Unclaimed (stage d (suc n))
    yields a h o =
        let c : Calls D es d.at n = hearer_calls D es d.at n (HasRecord e a) h in
        let s = heard-step D R L es d.at n c h.packet h.message h.heard h.reads in
        let r : HasRecord e a h.message = h.says in
        let z = knows_then d n c in
        let left : data_at D es d.at (suc n) ≡ some (data_then d n c) =
        data_left D R L es d.at n (data_then d n c) (has-then d n c) c ∙ ap (λ (t : Step D). some (data_after D t (data_then d n c))) s.1
        in
        yielded D R L es d.at n (data_then d n c) (has-then d n c) c k s.0 h.message s.1
        (L.conflict h.message r.setup (data_then d n c) k type r.value z.value r.valid
        (L.valid c.state (data_then d n c) (of_state D R L es d.at n (data_then d n c) (has-then d n c) c.state c.before))
        (same_name_lem e d r.setup (data_then d n c) both (record { named = r.named; value = r.value; has = r.has }) z) r.has z.has
        (λ q. o (ap record_in_lem left ∙ z.has ∙ ap some (sym q) ∙ sym r.is)) r.carries)

    defers : (r : Records) → HearsProbe d e r n → Later r (records d n) → Probing (stage d n) → Unclaimed (stage d (suc n))
    defers r h l p =
        let c : Calls D es d.at n = hearer_calls D es d.at n (λ m. m ≡ R.probe h.setup k) h.hears in
        let s = heard-step D R L es d.at n c h.hears.packet h.hears.message h.hears.heard h.hears.reads in
        let z : some l.0 ≡ some (R.probe h.setup k) = sym l.1 ∙ h.is in
        let y : l.0 ≡ R.probe h.setup k = cc in
        let x : l.0 ≡ h.hears.message = y ∙ sym h.hears.says in
        let w : D.defeats l.0 (data_then d n c) k ≡ true = ap (λ (o : Option Setup). (records-in o).1 l.0) (sym (has-then d n c)) ∙ l.2 in
        deferred D R L es d.at n (data_then d n c) (has-then d n c) c k s.0 h.hears.message p.0 p.1 s.1
        (ap (λ (m : Message). D.defeats m (data_then d n c) k) (sym x) ∙ w)
        (sym (stage_before D R L es d.at n (data_then d n c) (has-then d n c) c k) ∙ p.2)

    defends : (r : Records) → HearsProbe d e r n → stage d n ≡ held → Tells d e (datum d n) n
    defends r h p =
        let c : Calls D es d.at n = hearer_calls D es d.at n (λ m. m ≡ R.probe h.setup k) h.hears in
        let s = heard-step D R L es d.at n c h.hears.packet h.hears.message h.hears.heard h.hears.reads in
        let is : taken d n c ≡ hears s.0 (R.probe h.setup k) =
        s.1 ∙ ap (λ (m : Message). hears s.0 m) h.hears.says
        in
        let z = knows_then d n c in
        answer c s.0 is (s.2 ∙ h.source)
        (L.defends (data_then d n c) c.state s.0 h.setup k type z.value
        (ready_as D R L es d.at n (data_then d n c) (has-then d n c) c (hears s.0 (R.probe h.setup k)) is) h.valid
        (same_name_lem e d h.setup (data_then d n c) both (from-e c) z) z.has
        (sym (stage_before D R L es d.at n (data_then d n c) (has-then d n c) c k) ∙ p))
      where
        -- only the name of e's data matters
        from-e : (c : Calls D es d.at n) → Known e h.setup
        from-e c = record { named = h.named; value = h.value; has = h.has }

        valid_then : (c : Calls D es d.at n) → R.Valid (data_then d n c)
        valid_then c = L.valid c.state (data_then d n c) (of_state D R L es d.at n (data_then d n c) (has-then d n c) c.state c.before)

        sent : (c : Calls D es d.at n) (a : Arrival) → taken d n c ≡ hears a (R.probe h.setup k) → (to : Destination)
            → Answers D R (data_then d n c) c.state (hears a (R.probe h.setup k)) k type to
            → Sends D es d.at n to (HasRecord d (datum d n))
        sent c a is to w =
            let v : Answers D R (data_then d n c) c.state (taken d n c) k type to =
            subst (λ (t : Step D). Answers D R (data_then d n c) c.state t k type to) (sym is) w
            in
            let z = knows_then d n c in
            sends D R L es d.at n c to (HasRecord d (datum d n)) v.message v.sent
            (record {
              setup = data_then d n c;
              valid = valid_then c;
              named = z.named;
              value = z.value;
              has = z.has;
              is = ap record_in_lem (has-then d n c) ∙ z.has;
              carries = v.carries;
            })

        answer : (c : Calls D es d.at n) (a : Arrival) → taken d n c ≡ hears a (R.probe h.setup k) → D.from a ≡ P.address e.at
            → Answers D R (data_then d n c) c.state (hears a (R.probe h.setup k)) k type everyone
            ⊎ Answers D R (data_then d n c) c.state (hears a (R.probe h.setup k)) k type (unicast (D.from a) 5353)
            → Tells d e (datum d n) n
        answer c a is from (inl w) = record { to = everyone; reaches = tt; sends = sent c a is everyone w }
        answer c a is from (inr w) = record { to = unicast (D.from a) 5353; reaches = (from, refl); sends = sent c a is (unicast (D.from a) 5353) w }

  -- ---- what is sent is heard

  active : (o : Option State) → (Unclaimed (stage_of_lem D R o k) → ⊥) → is_some o ≡ true
  active none f = absurd (f tt)
  active (some x) f = refl

  heard :
      (d e : Party) (i j : ℕ) (to : Destination) (Q : Message → Type 0) → base ≤ i → i < j → Two d e → j < length es → Reaches D P.address e.at to
      → Sends D es d.at i to Q → (Unclaimed (stage e i) → ⊥) → (Unclaimed (stage e j) → ⊥) → time_at D es i + delivery_time < time_at D es j
      → Taken (time_at D es) (λ n. Hears D es e.at n Q × (source_at D es n ≡ P.address d.at)) i j
  heard d e i j to Q bi l f h r s a b t =
      let w : Delivered D es P.address e.at i s.parcel.bytes =
      P.delivered i j e.at s.parcel bi l s.sent (subst (λ (q : Destination). Reaches D P.address e.at q) (sym s.goes) r)
      (λ q. f.two (sym s.whose ∙ sym q)) (active (after D es e.at i) a) h (active (after D es e.at j) b) t
      in
      record {
        at = w.at;
        after = w.later;
        before = taken-before D es base outset P e.at i j s.parcel.bytes w (omega arith) t;
        soon = w.soon;
        takes = (
          record { whose = w.taker; packet = s.parcel.bytes; heard = w.takes; message = s.message; reads = s.reads; says = s.says },
          w.source ∙ ap P.address s.whose,
        );
      }

  -- the data with which entry n was called
  sender_known :
      (d : Party) (n : ℕ) (s : Setup) → data_at D es d.at n ≡ some s → Calls D es d.at n → R.Valid s
  sender_known d n s has c = L.valid c.state s (of_state D R L es d.at n s has c.state c.before)

  sender_calls : (d : Party) (n : ℕ) (to : Destination) (Q : Message → Type 0) → Sends D es d.at n to Q → Calls D es d.at n
  sender_calls d n to Q s = calls_as D es d.at n s.whose (sender D es n s.parcel s.sent)

  probe-heard :
      (d e : Party) (i j : ℕ) → base ≤ i → i < j → Two d e → j < length es → Sends D es d.at i everyone (claims.OwnProbe D R es d.at k i)
      → (Unclaimed (stage e i) → ⊥) → (Unclaimed (stage e j) → ⊥) → time_at D es i + delivery_time < time_at D es j
      → Taken (time_at D es) (HearsProbe e d (records d i)) i j
  probe-heard d e i j bi l f h s a b t =
      let u = s.says in
      let z : Known d u.setup = known d i u.setup u.has in
      let w =
      heard d e i j everyone (λ m. m ≡ R.probe u.setup k) bi l f h tt
      (record { whose = s.whose; parcel = s.parcel; sent = s.sent; goes = s.goes; message = s.message; reads = s.reads; says = u.is }) a b t
      in
      record {
        at = w.at;
        after = w.after;
        before = w.before;
        soon = w.soon;
        takes =
            record {
              setup = u.setup;
              valid = sender_known d i u.setup u.has (sender_calls d i everyone (claims.OwnProbe D R es d.at k i) s);
              named = z.named;
              value = z.value;
              has = z.has;
              is = ap (λ (o : Option Setup). (records-in o).0) u.has;
              hears = w.takes.0;
              source = w.takes.1;
            };
      }

  -- ---- versions of the record

  -- entry n is d's start, or an update of the record that d takes
  abbrev Revises : ℕ → Type 0
  Revises n = (new : Update) × (update_at D es n ≡ some new) × (instance ≡ k) × (D.changes new ≡ type)

  abbrev Fresh : Party → ℕ → Type 0
  Fresh d n = (owner_at D es n ≡ d.at) × (((t : Setup) × (setup_of D es n ≡ some t)) ⊎ Revises n)

  revises? : (n : ℕ) → Dec (Revises n)
  revises? n = go (update_at D es n) refl
    where
      go : (o : Option Update) → update_at D es n ≡ o → Dec (Revises n)
      go none e = no (λ w. clash (let z : none ≡ some w.0 = sym e ∙ w.1 in cc))
      go (some new) e = split (Claim-discrete instance k) (ℕ_discrete (D.changes new) type)
        where
          is : (w : Revises n) → w.0 ≡ new
          is w = let z : some w.0 ≡ some new = sym w.1 ∙ e in cc

          split : Dec (instance ≡ k) → Dec (D.changes new ≡ type) → Dec (Revises n)
          split (yes a) (yes b) = yes (new, e, a, b)
          split (yes a) (no b) = no (λ w. b (ap D.changes (sym (is w)) ∙ w.3))
          split (no a) b = no (λ w. a w.2)

  fresh? : (d : Party) (n : ℕ) → Dec (Fresh d n)
  fresh? d n = go (ℕ_discrete (owner_at D es n) d.at) (setup_of D es n) refl (revises? n)
    where
      go : Dec (owner_at D es n ≡ d.at) → (o : Option Setup) → setup_of D es n ≡ o → Dec (Revises n) → Dec (Fresh d n)
      go (no a) o e r = no (λ w. a w.0)
      go (yes a) (some t) e r = yes (a, inl (t, e))
      go (yes a) none e (yes r) = yes (a, inr r)
      go (yes a) none e (no r) = no (λ w. ⊎_elim (λ v. clash (let z : none ≡ some v.0 = sym e ∙ v.1 in cc)) r w.1)

  abbrev since : {A : Type 0} → Dec A → ℕ → Option ℕ → Option ℕ
  since (yes a) n o = some n
  since (no a) n o = o

  version : Party → ℕ → Option ℕ
  version d zero = none
  version d (suc n) = since (fresh? d n) n (version d n)

  version_before : (d : Party) (n v : ℕ) → version d n ≡ some v → v < n
  unfolding version
  version_before d zero v e = clash (let z : none ≡ some v = e in cc)
  version_before d (suc n) v e = go (fresh? d n) e (version_before d n v)
    where
      go : (p : Dec (Fresh d n)) → since p n (version d n) ≡ some v → (version d n ≡ some v → v < n) → v < suc n
      go (yes w) f ih = let z : some n ≡ some v = f in let y : n ≡ v = cc in omega arith
      go (no w) f ih = omega (arith, ih f)

  running : (d : Party) (n : ℕ) (x : State) → after D es d.at n ≡ some x → (v : ℕ) × (version d n ≡ some v)
  unfolding after version setup_in
  running d zero x e = clash (let z : none ≡ some x = e in cc)
  running d (suc n) x e = go (fresh? d n) (event D es d.at n) (running d n)
    where
      go : (p : Dec (Fresh d n)) → Event D es d.at n → ((y : State) → after D es d.at n ≡ some y → (v : ℕ) × (version d n ≡ some v))
          → (v : ℕ) × (since p n (version d n) ≡ some v)
      go (yes w) f ih = (n, refl)
      go (no w) (idle p g) ih = ih x (sym p ∙ e)
      go (no w) (ends p) ih = clash (let z : none ≡ some x = sym p ∙ e in cc)
      go (no w) (begins t now draw y o f q p) ih =
          absurd (w (start-owner D es n now draw t f ∙ o, inl (t, ap (λ (v : Call D). setup_in D v) f)))
      go (no w) (moves c p) ih = ih c.state c.before

  claimed-running : (d : Party) (n : ℕ) → (Unclaimed (stage d n) → ⊥) → (v : ℕ) × (version d n ≡ some v)
  claimed-running d n f = go (after D es d.at n) refl f
    where
      go : (o : Option State) → after D es d.at n ≡ o → (Unclaimed (stage_of_lem D R o k) → ⊥) → (v : ℕ) × (version d n ≡ some v)
      go none e g = absurd (g tt)
      go (some x) e g = running d n x e

  keeps : (d : Party) (n : ℕ) → version d (suc n) ≡ version d n → datum d (suc n) ≡ datum d n
  unfolding version revised setup_in update_in
  keeps d n e = go (fresh? d n) e (ℕ_discrete (owner_at D es n) d.at)
    where
      by : (w : Call D) → call_at D es n ≡ w → (a : Answer State) → reply_at D es n ≡ a → owner_at D es n ≡ d.at → (Fresh d n → ⊥) → (o : Option Setup)
          → record_in_lem (revised D w a o) ≡ record_in_lem o
      by (starts t now draw) f a h o g q = absurd (g (o, inl (t, ap (λ (v : Call D). setup_in D v) f)))
      by (ticks-call b t) f a h o g q = refl
      by (receives b p) f a h o g q = refl
      by (stops b t) f a h o g q = refl
      by (updates-call b new) f refused h o g q = refl
      by (updates-call b new) f (accepted x ps) h o g none = refl
      by (updates-call b new) f (accepted x ps) h o g (some s) =
          L.revise_other new s k type
          (λ a t.
          g (
            o,
            inr (new, ap (λ (v : Call D). update_in D v (reply_at D es n)) f ∙ ap (λ (v : Answer State). update_in D (updates-call b new) v) h, a, t),
          ))
      by (cut b) f a h o g q = refl

      go : (p : Dec (Fresh d n)) → since p n (version d n) ≡ version d n → Dec (owner_at D es n ≡ d.at) → datum d (suc n) ≡ datum d n
      go (yes w) f q = absurd (omega (arith, version_before d n n (sym f)))
      go (no w) f (no q) = ap record_in_lem (data_passed D es d.at n q)
      go (no w) f (yes q) =
          ap record_in_lem (owned-data D es d.at n q) ∙ by (call_at D es n) refl (reply_at D es n) refl q w (data_at D es d.at n)

  -- an update of the record that d takes as a holder
  pub record Updates (d : Party) (n : ℕ) : Type 0 where
    pub whose : owner_at D es n ≡ d.at
    pub new : Update
    pub takes : update_at D es n ≡ some new
    pub of : instance ≡ k
    pub changed : D.changes new ≡ type
    pub was : stage d n ≡ held

  at-start : (d : Party) → Unclaimed (stage d (suc d.at))
  at-start d = go (event D es d.at d.at)
    where
      ended : after D es d.at (suc d.at) ≡ none → Unclaimed (stage d (suc d.at))
      ended p = subst (λ (a : Option State). Unclaimed (stage_of_lem D R a k)) (sym p) tt

      go : Event D es d.at d.at → Unclaimed (stage d (suc d.at))
      go (idle p g) = ended (p ∙ not-before D es d.at d.at (omega arith))
      go (ends p) = ended p
      go (begins t w draw x o e q p) =
          subst (λ (a : Option State). Unclaimed (stage_of_lem D R a k)) (sym p) (subst Unclaimed (sym ((L.begun t w draw x q).waits k)) tt)
      go (moves c p) = absurd (omega (arith, after-start D es d.at d.at c))

  abbrev claim : Party → Course (claims.list D es base outset P)
  claim d = claims.course D R L es base outset P d.at k

  abbrev Turns : Party → ℕ → Type 0
  Turns d n = Turn (claims.list D es base outset P) (claim d) (version d) (Shows d) (Updates d) n

  turns : (d : Party) (n : ℕ) → Turns d n
  unfolding version claims.list claims.course
  turns d n = go (fresh? d n) refl
    where
      renewed : version d (suc n) ≡ some n → owner_at D es n ≡ d.at → Revises n → Turns d n
      renewed v o w =
          let new : Update = w.0 in
          let c : Calls D es d.at n = calls_as D es d.at n o (updater D es n w.0 w.1) in
          let e : taken d n c ≡ updates w.0 = update-step D R L es d.at n c w.0 w.1 in
          ⊎_elim (λ u. begins-turn v u)
          (λ r. renews v (record { whose = o; new = w.0; takes = w.1; of = w.2; changed = w.3; was = r.0 })
          (claims.acts D R L es base outset P d.at k n c)
          (shown c w.0 e w.3 r.2) r.1)
          (renewing d n c w.0 e w.2)
        where
          shown : (c : Calls D es d.at n) (new : Update) → taken d n c ≡ updates new → D.changes new ≡ type
              → Answers D R (D.revise new (data_then d n c)) c.state (taken d n c) k (D.changes new) everyone → Shows d n
          shown c new e t w =
              let s : Setup = D.revise new (data_then d n c) in
              let left_is : data_at D es d.at (suc n) ≡ some (D.revise new (data_then d n c)) =
              data_left D R L es d.at n (data_then d n c) (has-then d n c) c ∙ ap (λ (q : Step D). some (data_after D q (data_then d n c))) e
              in
              let z : Known d (D.revise new (data_then d n c)) = known d (suc n) (D.revise new (data_then d n c)) left_is in
              sends D R L es d.at n c everyone (HasRecord d (datum d (suc n))) w.message w.sent
              (record {
                setup = D.revise new (data_then d n c);
                valid =
                    L.valid c.next (D.revise new (data_then d n c))
                    (of_state D R L es d.at (suc n) (D.revise new (data_then d n c)) left_is c.next (left D es d.at n c));
                named = z.named;
                value = z.value;
                has = z.has;
                is = ap record_in_lem left_is ∙ z.has;
                carries = subst (λ (y : ℕ). R.Carries w.message (D.revise new (data_then d n c)) k y) t w.carries;
              })

      go : (p : Dec (Fresh d n)) → version d (suc n) ≡ since p n (version d n) → Turns d n
      go (no w) v = goes_on_lem v
      go (yes (o, inr w)) v = renewed v o w
      go (yes (o, inl w)) v =
          let s : d.at ≡ n = sym o ∙ starter D es n w.0 w.1 in
          begins-turn v (subst (λ (i : ℕ). Unclaimed (stage d (suc i))) s (at-start d))

  shows : (d : Party) (n : ℕ) → Sends D es d.at n everyone (claims.Whole D R es d.at k n) → Shows d n
  shows d n s =
      let w = s.says in
      let z : Known d w.setup = known d n w.setup w.has in
      record {
        whose = s.whose;
        parcel = s.parcel;
        sent = s.sent;
        goes = s.goes;
        message = s.message;
        reads = s.reads;
        says =
            record {
              setup = w.setup;
              valid = sender_known d n w.setup w.has (sender_calls d n everyone (claims.Whole D R es d.at k n) s);
              named = z.named;
              value = z.value;
              has = z.has;
              is = ap record_in_lem w.left ∙ z.has;
              carries = w.all type z.value z.has;
            };
      }

  rivalry : Rivalry
  unfolding version claims.list claims.course
  rivalry =
      record {
        link = claims.list D es base outset P;
        Rival = Party;
        claim = claim;
        Datum = Option (List ℕ);
        datum = datum;
        version = version;
        Shows = Shows;
        Updates = Updates;
        Records = Records;
        records = records;
        Later = Later;
        Tells = Tells;
        HearsRecord = λ d e a n. Hears D es d.at n (HasRecord e a);
        HearsProbe = HearsProbe;
        Two = Two;
        two_sym = two_sym;
        tie = tie;
        no_first = λ d. refl;
        running = claimed-running;
        turns = turns;
        keeps = keeps;
        whole = λ d n z. z;
        one-actor = λ d e n f a b. f.two (sym a.whose ∙ b.whose);
        steady = steady;
        shows = shows;
        tells_all = λ d e n s. record { to = everyone; reaches = tt; sends = s };
        yields = λ d e a n f h o. yields d e n (two_sym d e f) a h o;
        defers = λ d e r n f h l p. defers d e n (two_sym d e f) r h l p;
        defends = λ d e r n f h p. defends d e n (two_sym d e f) r h p;
        probe-heard = probe-heard;
        record_heard =
            λ d e a i j b l f h s x y t.
            let w = heard d e i j s.to (HasRecord d a) b l f h s.reaches s.sends x y t in
            record { at = w.at; after = w.after; before = w.before; soon = w.soon; takes = w.takes.0 };
      }

  first-stage : (d : Party) → Unclaimed (stage d 0)
  unfolding after
  first-stage d = tt

  -- d updated its record at an earlier entry, as a holder, and no entry up to the next one comes more than 100 ms later
  pub record Lately (d : Party) (n : ℕ) : Type 0 where
    pub at : ℕ
    pub from-base : base ≤ at
    pub before : at < n
    pub updates : Updates d at
    pub soon : (q : ℕ) → base ≤ q → q ≤ n → q < length es → time_at D es q ≤ time_at D es at + delivery_time

  -- premises from the first entry on: both only after an update
  pub not-both :
      base ≡ 0 → (n : ℕ) → n ≤ length es → (d e : Party) → Two d e → datum d n ≢ datum e n → stage d n ≡ held → stage e n ≡ held → Lately d n ⊎ Lately e n
  unfolding rivalry claims.list claims.course
  not-both z n h d e f o p q = ⊎_elim (λ w. inl (lately d w)) (λ w. inr (lately e w)) (unique rivalry z first-stage n h d e f p q o)
    where
      lately : (x : Party) → Updated rivalry x n → Lately x n
      lately x w = record { at = w.at; from-base = w.from-base; before = w.at<n; updates = w.updates; soon = w.soon }

  -- from any entry on, without updates: not after one was held and then, later, the other not
  pub not-again :
      (i t : ℕ) → base ≤ i → i < t → (d e : Party) → Two d e → ((n : ℕ) → base ≤ n → update_at D es n ≡ none) → stage e (suc i) ≡ held
      → Unclaimed (stage d (suc t)) → (n : ℕ) → t < n → n ≤ length es → datum d n ≢ datum e n → stage d n ≡ held → stage e n ≡ held → ⊥
  unfolding rivalry claims.list claims.course
  not-again i t b l d e f none-new h u n g r o p q = joined rivalry i t b l d e f (λ m a w. quiet d m a w) (λ m a w. quiet e m a w) h u n g r p q o
    where
      quiet : (x : Party) (m : ℕ) → base ≤ m → Updates x m → ⊥
      quiet x m a w = clash (let z : none ≡ some w.new = sym (none-new m a) ∙ w.takes in cc)
