-- Of the responders that want a name one has the latest records, and so, when they are switched on and left alone, one holds the name and the others do not.
-- Assumes nothing.
use mathlib.Core.Path.{◌≡◌, refl, sym, ◌∙◌, ap, subst}
use mathlib.Core.Logic.{◌≢◌, ◌⊎◌, inl, inr, ⊎_elim}
use mathlib.Core.Bool.{Bool, true, false}
use mathlib.Core.Option.{some}
use mathlib.Core.List.{List}
use Prim.Native.Nat.{ℕ, zero, suc, ◌+◌, ◌≤◌, ◌<◌}
use native.Mathlib.Omega.{arith}
use native.Mathlib.Decide.{dec_lt}
use Rattle.link.specs.Responder.{Responder, Claim}
use Rattle.link.specs.Entries.{Entry, time_at, owner_at, runs, after, setup_of, data_at}
use Rattle.link.specs.Premises.{Premises}
use Rattle.link.specs.Holding.{hears, holds}
use Rattle.link.specs.Demand3.{holding_time}
use Rattle.link.specs.Laws.{data_after, Rules, Lawful}
use Rattle.link.specs.Contention.{Tiebreak, wants, begun, FromList, HeldBefore, OneHolder, probes_for, NotLater, Latest, Last, SwitchedOn, LastExists}
use Rattle.link.specs.Candid.{Probed, Candid}
use Rattle.link.proofs.Lists.{clash, is-from}
use Rattle.link.proofs.States.{Calls, hearer, calls_as, after-start, ran_before, is-running}
use Rattle.link.proofs.Steps.{Act, act, of_state}
use Rattle.link.proofs.From.{from_first}
use Rattle.link.proofs.Order.{in_order_lem, in_list_lem}
use Rattle.link.proofs.Witness.{started-before}
use Rattle.link.proofs.Alone.{holder-runs, first-data, Heard, heard-by, wants_it, wanted_name, Spoken, spoken}
use Rattle.link.proofs.Keeping.{kept, keeps, just_one_lem}
use Rattle.link.proofs.Someone.{is_true, is_false, someone}

module _ (D : Responder) (es : List (Entry D)) (k : Claim) (name : List ℕ) where
  open D use {Setup}

  -- the set-up of one that wants the name
  pub wanted_setup : (d : ℕ) → wants D es k name d ≡ true → (s : Setup) × (setup_of D es d ≡ some s)
  unfolding wants
  wanted_setup d w = let u = is-from (λ (t : Setup). D.same_name name (D.name t k)) (setup_of D es d) w in (u.0, u.1)

  abbrev Contends : ℕ → Type 0
  Contends d = (wants D es k name d ≡ true) × (begun D es d ≡ true)

  contends? : (d : ℕ) → Dec (Contends d)
  contends? d = go (is_true (wants D es k name d)) (is_true (begun D es d))
    where
      go : Dec (wants D es k name d ≡ true) → Dec (begun D es d ≡ true) → Dec (Contends d)
      go (yes a) (yes b) = yes (a, b)
      go (yes a) (no b) = no (λ w. b w.1)
      go (no a) b = no (λ w. a w.0)

  module _ (R : Rules D) (T : Tiebreak D) (C : Candid D R T) where
    -- among those below n, if there are any
    search : (n : ℕ) → Last D T es k name n ⊎ ((d : ℕ) → d < n → Contends d → ⊥)
    search zero = inr (λ d l w. absurd (omega arith))
    search (suc n) = go (search n) (contends? n)
      where
        -- n itself has the same set-up
        self : (s t : Setup) (e : ℕ) → e ≡ n → setup_of D es n ≡ some s → setup_of D es e ≡ some t → t ≡ s
        self s t e i p q = let z : some t ≡ some s = sym q ∙ ap (setup_of D es) i ∙ p in cc

        -- n is latest, if those before are not later
        newest : (w : Contends n) (s : Setup) → setup_of D es n ≡ some s
            → ((e : ℕ) (t : Setup) → e < n → wants D es k name e ≡ true → begun D es e ≡ true → setup_of D es e ≡ some t → T.later t s k ≡ false)
            → Last D T es k name (suc n)
        newest w s p f = record { at = n; before = omega arith; wanted = w.0; begins = w.1; setup = s; has = p; latest = by }
          where
            by : (e : ℕ) (t : Setup) → e < suc n → wants D es k name e ≡ true → begun D es e ≡ true → setup_of D es e ≡ some t → T.later t s k ≡ false
            by e t l v b q = split (dec_lt e n)
              where
                split : Dec (e < n) → T.later t s k ≡ false
                split (yes c) = f e t c v b q
                split (no c) = ap (λ (u : Setup). T.later u s k) (self s t e (omega arith) p q) ∙ C.later_self s k

        -- the latest of those before stays so, if n is not later
        older : (x : Last D T es k name n) → (Contends n → (s : Setup) → setup_of D es n ≡ some s → T.later s x.setup k ≡ false) → Last D T es k name (suc n)
        older x f =
            record { at = x.at; before = omega (arith, x.before); wanted = x.wanted; begins = x.begins; setup = x.setup; has = x.has; latest = by }
          where
            by : (e : ℕ) (t : Setup) → e < suc n → wants D es k name e ≡ true → begun D es e ≡ true → setup_of D es e ≡ some t
                → T.later t x.setup k ≡ false
            by e t l v b q = split (dec_lt e n)
              where
                split : Dec (e < n) → T.later t x.setup k ≡ false
                split (yes c) = x.latest e t c v b q
                split (no c) =
                    let i : e ≡ n = omega arith in
                    f (subst (λ (j : ℕ). wants D es k name j ≡ true) i v, subst (λ (j : ℕ). begun D es j ≡ true) i b) t (ap (setup_of D es) (sym i) ∙ q)

        compare : (x : Last D T es k name n) (w : Contends n) (s : Setup) → setup_of D es n ≡ some s → (b : Bool) → T.later s x.setup k ≡ b
            → Last D T es k name (suc n)
        compare x w s p true e =
            newest w s p
            (λ d t l v b q.
            is_false (T.later t s k)
            (λ z. clash (let y : false ≡ true = sym (x.latest d t l v b q) ∙ C.later_trans t s x.setup k z e in cc)))
        compare x w s p false e = older x (λ v t q. ap (λ (u : Setup). T.later u x.setup k) (let z : some t ≡ some s = sym q ∙ p in cc) ∙ e)

        go : Last D T es k name n ⊎ ((d : ℕ) → d < n → Contends d → ⊥) → Dec (Contends n)
            → Last D T es k name (suc n) ⊎ ((d : ℕ) → d < suc n → Contends d → ⊥)
        go (inl x) (no w) = inl (older x (λ v s p. absurd (w v)))
        go (inl x) (yes w) =
            let s = wanted_setup n w.0 in
            inl (compare x w s.0 s.1 (T.later s.0 x.setup k) refl)
        go (inr f) (yes w) =
            let s = wanted_setup n w.0 in
            inl (newest w s.0 s.1 (λ e t l v b q. absurd (f e l (v, b))))
        go (inr f) (no w) = inr (λ d l v. none_yet d l v (dec_lt d n))
          where
            none_yet : (d : ℕ) → d < suc n → Contends d → Dec (d < n) → ⊥
            none_yet d l v (yes c) = f d c v
            none_yet d l v (no c) =
                let i : d ≡ n = omega arith in
                w (subst (λ (j : ℕ). wants D es k name j ≡ true) i v.0, subst (λ (j : ℕ). begun D es j ≡ true) i v.1)

    pub last_of : (n one : ℕ) → one < n → wants D es k name one ≡ true → begun D es one ≡ true → Last D T es k name n
    last_of n one l w b = ⊎_elim (λ x. x) (λ f. absurd (f one l (w, b))) (search n)

pub last-exists : (D : Responder) (R : Rules D) (T : Tiebreak D) → Candid D R T → LastExists D T
unfolding LastExists
last-exists D R T C es k name n one l w b = last_of D es k name R T C n one l w b

-- ---- one is left

module _
    (D : Responder) (R : Rules D) (L : Lawful D R) (T : Tiebreak D) (C : Candid D R T) (es : List (Entry D)) (P : Premises D es) (k : Claim)
    (name : List ℕ) (n until : ℕ) (S : SwitchedOn D T es k name n until)
  where
    open D use {Setup, Message}

    X : Last D T es k name n
    X = last_of D es k name R T C n S.one S.started S.wanted S.begins

    -- the data of one that has begun are those that it was started with
    data_of : (d m : ℕ) (s : Setup) → wants D es k name d ≡ true → setup_of D es d ≡ some s → d < m → m ≤ until → data_at D es d m ≡ some s
    data_of d m s w p l h = kept D R L T C es P k name 0 until S.alone d (suc d) m w (omega arith) (omega arith) l h ∙ first-data D es d s p

    -- the probes that the latest hears are not later
    module _
        (m : ℕ) (t : time_at D es m ≤ time_at D es X.at + holding_time) (h : hears D es X.at (λ s. probes_for D T s k) m ≡ true)
      where
        o : Heard D es X.at (λ s. probes_for D T s k) m
        o = heard-by D es X.at (λ s. probes_for D T s k) m h

        c : Calls D es X.at m
        c = calls_as D es X.at m o.whose (hearer D es m o.packet o.heard)

        m<n : m < n
        m<n = go (dec_lt m n)
          where
            go : Dec (m < n) → m < n
            go (yes l) = l
            go (no l) =
                absurd
                (omega (
                  arith,
                  in_order_lem D es 0 0 (from_first D es P) n m (omega arith) (omega arith) (in_list_lem D es m o.packet o.heard),
                  S.all X.at X.before X.wanted X.begins,
                ))

        own : data_at D es X.at m ≡ some X.setup
        own = data_of X.at m X.setup X.wanted X.has (after-start D es X.at m c) (omega (arith, m<n, S.by))

        valid : R.Valid X.setup
        valid = L.valid c.state X.setup (of_state D R L es X.at m X.setup own c.state c.before)

        from : FromList D es 0 m
        from = S.probes X.at m X.wanted (omega (arith, m<n, S.by)) h

        w : Spoken D R L es k from.at from.parcel
        w = spoken D R L es k from.at from.parcel from.sent

        abbrev e : ℕ
        e = owner_at D es from.at

        a : Act D R L es e from.at w.calls
        a = act D R L es e from.at w.calls

        abbrev theirs : Setup
        theirs = data_after D a.step a.setup

        probed : Probed D R T theirs X.setup k w.sent.message
        unfolding probes_for a
        probed =
            let mine : o.setup ≡ X.setup = let z : some o.setup ≡ some X.setup = sym o.has ∙ own in cc in
            let r = is-from (λ (b : Message). T.probes b (D.name o.setup k)) (D.read o.packet) o.passes in
            let z : some from.parcel.bytes ≡ some o.packet = sym from.heard ∙ o.heard in
            let y : from.parcel.bytes ≡ o.packet = cc in
            let u : some w.sent.message ≡ some r.0 = sym w.reads ∙ ap D.read y ∙ r.1 in
            let same : w.sent.message ≡ r.0 = cc in
            C.probed a.setup w.calls.state a.step w.sent X.setup k a.ready valid w.among
            (ap (λ (b : Message). T.probes b (D.name X.setup k)) same ∙ ap (λ (s : Setup). T.probes r.0 (D.name s k)) (sym mine) ∙ r.2)

        wants_too : wants D es k name e ≡ true
        wants_too =
            wants_it D R L es k name e (suc from.at) theirs a.leaves
            (C.name_trans name (D.name X.setup k) (D.name theirs k) (wanted_name D R L es k name X.at m X.setup X.wanted own)
            (L.name_sym (D.name theirs k) (D.name X.setup k) probed.same))

        started : e < from.at
        started = after-start D es e from.at w.calls

        began : begun D es e ≡ true
        began = ran_before D es e (suc e) from.at (omega arith) started (is-running D es (after D es e from.at) w.calls.state w.calls.before)

        not-later : NotLater D T es k X.setup m
        not-later =
            let s = wanted_setup D es k name e wants_too in
            let d : data_at D es e (suc from.at) ≡ some s.0 =
            data_of e (suc from.at) s.0 wants_too s.1 (omega (arith, started)) (omega (arith, from.before, m<n, S.by))
            in
            record {
              from = from;
              theirs = s.0;
              has = d;
              not_later = X.latest e s.0 (omega (arith, started, from.before, m<n)) wants_too began s.1;
            }

    latest : Latest D T es k X.at
    latest = record { setup = X.setup; has = X.has; not_later = not-later }

    -- one that holds at the moment n is the one from then on
    module _ (d : ℕ) (v : wants D es k name d ≡ true) (h : holds D es d k n ≡ true) where
      runs_then : (i m : ℕ) → holds D es i k m ≡ true → (i < m) × (begun D es i ≡ true)
      runs_then i m g =
          let r : runs D es i m ≡ true = holder-runs D es i k m g in
          let l : i < m = started-before D es i m r in
          (l, ran_before D es i (suc i) m (omega arith) l r)

      holding : (m : ℕ) → n ≤ m → m ≤ until → holds D es d k m ≡ true
      holding m l b = keeps D R L T C es P k name 0 until S.alone m b d n v (omega arith) l h

      others : (e m : ℕ) → wants D es k name e ≡ true → e ≢ d → n ≤ m → m ≤ until → holds D es e k m ≡ false
      others e m w f l b = is_false (holds D es e k m) both
        where
          both : holds D es e k m ≡ true → ⊥
          both g =
              let s = wanted_setup D es k name e w in
              let t = wanted_setup D es k name d v in
              just_one_lem D R L T C es P k name 0 until S.alone e d m s.0 t.0 w v (omega arith) b
              (data_of e m s.0 w s.1 (runs_then e m g).0 b) (data_of d m t.0 v t.1 (runs_then d m (holding m l b)).0 b)
              (S.different e d s.0 t.0 w v f (runs_then e m g).1 (runs_then d m (holding m l b)).1 s.1 t.1) g (holding m l b)

      alone : OneHolder D es k name n until
      alone = record { holder = d; wanted = v; holding = holding; others = others }

    pub left_over : OneHolder D es k name n until
    left_over =
        ⊎_elim (λ (h : holds D es X.at k n ≡ true). alone X.at X.wanted h)
        (λ (b : HeldBefore D es k name X.at n). alone b.holder b.wanted b.holding)
        (someone D R L T C es P k name 0 until S.alone X.at X.wanted (omega arith) X.begins latest n S.by S.in_list
        (S.all X.at X.before X.wanted X.begins))
