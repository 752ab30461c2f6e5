-- Someone holds the name 1,200 ms after the start of a responder with the latest records: it is not contradicted, and then demand 3's second conclusion
-- says so; or the sender of the first conflicting response that it hears holds. Assumes nothing.
use mathlib.Core.Path.{◌≡◌, refl, sym, ◌∙◌, ap, subst}
use mathlib.Core.Logic.{◌⊎◌, inl, inr, ⊎_elim}
use mathlib.Core.Bool.{Bool, true, false}
use mathlib.Core.Option.{none, some}
use mathlib.Core.List.{List}
use Prim.Native.Nat.{ℕ, zero, suc, ◌+◌, ◌-◌, ◌≤◌, ◌<◌}
use native.Mathlib.Omega.{arith}
use native.Mathlib.Decide.{dec_lt}
use lib.ListN.{length}
use Rattle.link.specs.Responder.{Responder, Claim}
use Rattle.link.specs.Entries.{Entry, time_at, owner_at, runs, data_at}
use Rattle.link.specs.Premises.{Premises}
use Rattle.link.specs.Holding.{conflicts_with, defeats_of, hears, holds}
use Rattle.link.specs.Demand3.{holding_time}
use Rattle.link.specs.Laws.{data_after, Rules, Lawful}
use Rattle.link.specs.Contention.{Tiebreak, wants, begun, FromList, LeftAlone, probes_for, NotLater, Latest, HeldBefore}
use Rattle.link.specs.Candid.{Candid}
use Rattle.link.proofs.Lists.{clash, is-from, is-of}
use Rattle.link.proofs.States.{Calls, hearer, calls_as, after-start, starter}
use Rattle.link.proofs.Steps.{Act, act, of_state}
use Rattle.link.proofs.From.{from_first}
use Rattle.link.proofs.Order.{in_order_lem, begun-in_list}
use Rattle.link.proofs.Timely.{timely}
use Rattle.link.proofs.First.{First, first_below}
use Rattle.link.proofs.Alone.{first-data, Heard, heard-by, hears_of, Spoken, spoken, Sender, sender_of}
use Rattle.link.proofs.Keeping.{quiet, kept, keeps, from, sender_wants, sender_data}

pub is_true : (b : Bool) → Dec (b ≡ true)
is_true true = yes refl
is_true false = no (λ e. clash (cc))

pub is_false : (b : Bool) → (b ≡ true → ⊥) → b ≡ false
is_false true f = absurd (f refl)
is_false false f = refl

module _
    (D : Responder) (R : Rules D) (L : Lawful D R) (T : Tiebreak D) (C : Candid D R T) (es : List (Entry D)) (P : Premises D es) (k : Claim)
    (name : List ℕ) (since until : ℕ) (A : LeftAlone D es k name since until) (x : ℕ) (v : wants D es k name x ≡ true) (a : since ≤ x)
    (began : begun D es x ≡ true) (X : Latest D T es k x)
  where
    open D use {Setup, Message}

    -- it runs on
    on_from : (j : ℕ) → suc x + j ≤ until → runs D es x (suc x + j) ≡ true
    on_from zero h = subst (λ (i : ℕ). runs D es x i ≡ true) (let e : suc x ≡ suc x + 0 = omega arith in e) began
    on_from (suc j) h =
        subst (λ (i : ℕ). runs D es x i ≡ true) (let e : suc (suc x + j) ≡ suc x + suc j = omega arith in e)
        (A.running x (suc x + j) v (omega arith) (omega arith) (on_from j (omega arith)))

    runs_on : (n : ℕ) → x < n → n ≤ until → runs D es x n ≡ true
    runs_on n l h =
        let e : suc x + (n - suc x) ≡ n = omega arith in
        subst (λ (i : ℕ). runs D es x i ≡ true) e (on_from (n - suc x) (omega arith))

    -- its data stay those that it was started with
    same_data : (n : ℕ) → x < n → n ≤ until → data_at D es x n ≡ some X.setup
    same_data n l h = kept D R L T C es P k name since until A x (suc x) n v (omega arith) (omega arith) l h ∙ first-data D es x X.setup X.has

    -- it hears no probe with later records
    no_later_lem : (n : ℕ) → n < until → time_at D es n ≤ time_at D es x + holding_time → hears D es x (λ s. defeats_of D s k) n ≡ true → ⊥
    unfolding defeats_of probes_for
    no_later_lem n h t d =
        clash
        (let z : false ≡ true =
        sym N.not_later
        ∙ ap (λ (u : Setup). T.later u X.setup k) same_theirs
        ∙ (C.probed act_of.setup w.calls.state act_of.step w.sent X.setup k act_of.ready valid w.among
        (ap (λ (b : Message). T.probes b (D.name X.setup k)) same ∙ C.is_probe m.0 X.setup k defeats)).later
        (ap (λ (b : Message). D.defeats b X.setup k) same ∙ defeats)
        in
        cc)
      where
        o : Heard D es x (λ s. defeats_of D s k) n
        o = heard-by D es x (λ s. defeats_of D s k) n d

        c : Calls D es x n
        c = calls_as D es x n o.whose (hearer D es n o.packet o.heard)

        mine : o.setup ≡ X.setup
        mine = let z : some o.setup ≡ some X.setup = sym o.has ∙ same_data n (after-start D es x n c) (omega arith) in cc

        valid : R.Valid X.setup
        valid =
            L.valid c.state X.setup
            (of_state D R L es x n X.setup (same_data n (after-start D es x n c) (omega arith)) c.state c.before)

        m : (b : Message) × (D.read o.packet ≡ some b) × (D.defeats b o.setup k ≡ true)
        m = is-from (λ (b : Message). D.defeats b o.setup k) (D.read o.packet) o.passes

        defeats : D.defeats m.0 X.setup k ≡ true
        defeats = ap (λ (u : Setup). D.defeats m.0 u k) (sym mine) ∙ m.2

        N : NotLater D T es k X.setup n
        N =
            X.not_later n t
            (hears_of D es x (λ s. probes_for D T s k) n
            (record {
              whose = o.whose;
              setup = o.setup;
              has = o.has;
              packet = o.packet;
              heard = o.heard;
              passes =
                  is-of (λ (b : Message). T.probes b (D.name o.setup k)) (D.read o.packet) m.0 m.1 (C.is_probe m.0 o.setup k m.2);
            }))

        w : Spoken D R L es k N.from.at N.from.parcel
        w = spoken D R L es k N.from.at N.from.parcel N.from.sent

        act_of : Act D R L es (owner_at D es N.from.at) N.from.at w.calls
        act_of = act D R L es (owner_at D es N.from.at) N.from.at w.calls

        same : w.sent.message ≡ m.0
        same =
            let z : some N.from.parcel.bytes ≡ some o.packet = sym N.from.heard ∙ o.heard in
            let y : N.from.parcel.bytes ≡ o.packet = cc in
            let u : some w.sent.message ≡ some m.0 = sym w.reads ∙ ap D.read y ∙ m.1 in
            cc

        same_theirs : N.theirs ≡ data_after D act_of.step act_of.setup
        same_theirs = let z : some N.theirs ≡ some (data_after D act_of.step act_of.setup) = sym N.has ∙ act_of.leaves in cc

    -- up to an entry more than 1,200 ms after its start, of which it is the first
    module _
        (n : ℕ) (h : n ≤ until) (l : n < length es) (beyond : time_at D es x + holding_time < time_at D es n)
        (not-before : (j : ℕ) → j < n → time_at D es x + holding_time < time_at D es j → ⊥)
      where
        x<n : x < n
        x<n = go (dec_lt x n)
          where
            go : Dec (x < n) → x < n
            go (yes b) = b
            go (no b) = absurd (omega (arith, in_order_lem D es 0 0 (from_first D es P) n x (omega arith) (omega arith) (begun-in_list D es x began)))

        within : (j : ℕ) → j < n → time_at D es j ≤ time_at D es x + holding_time
        within j b = go (dec_lt (time_at D es x + holding_time) (time_at D es j))
          where
            go : Dec (time_at D es x + holding_time < time_at D es j) → time_at D es j ≤ time_at D es x + holding_time
            go (yes c) = absurd (not-before j b c)
            go (no c) = omega arith

        -- no conflicting response is heard
        calm : ((j : ℕ) → j < n → hears D es x (λ s. conflicts_with D s k) j ≡ true → ⊥) → holds D es x k n ≡ true
        calm f =
            timely D R L es P x k x n
            (record {
              whose = starter D es x X.setup X.has;
              before = x<n;
              from = inl refl;
              last = λ j u i b c o e.
                  clash (let z : none ≡ some u = sym (quiet D R L T C es P k name since until A x j v (omega arith) (omega arith) o) ∙ e in cc);
              within = within;
              in_list = l;
              beyond = beyond;
              running = runs_on n x<n h;
              no_conflict = λ j b c. is_false (hears D es x (λ s. conflicts_with D s k) j) (f j c);
              no_later = λ j b c. is_false (hears D es x (λ s. defeats_of D s k) j) (no_later_lem j (omega arith) (within j c));
            })

        -- or its sender holds
        told : (j : ℕ) → j < n → hears D es x (λ s. conflicts_with D s k) j ≡ true → HeldBefore D es k name x n
        told j b c =
            record {
              holder = from D R L T C es P k name since until A x j v w S;
              other = λ e.
                  S.contradicts.differ.different
                  (let z : some S.theirs ≡ some S.mine =
                  sym (sender_data D R L T C es P k name since until A x j v w S (omega arith)) ∙ ap (λ (i : ℕ). data_at D es i j) e ∙ S.has
                  in
                  let y : S.theirs ≡ S.mine = cc in
                  let u : some S.contradicts.differ.one_data ≡ some S.contradicts.differ.other_data =
                  sym S.contradicts.differ.one_carries ∙ ap (λ (r : Setup). D.rdata r k S.contradicts.differ.type) y
                  ∙ S.contradicts.differ.other_carries
                  in
                  cc);
              wanted = sender_wants D R L T C es P k name since until A x j v w S;
              moment = suc w.at;
              before = omega (arith, w.before);
              held = S.holding;
              holding =
                  keeps D R L T C es P k name since until A n h (from D R L T C es P k name since until A x j v w S) (suc w.at)
                  (sender_wants D R L T C es P k name since until A x j v w S) (omega (arith, w.since_then)) (omega (arith, w.before)) S.holding;
            }
          where
            started : x < j
            started =
                let o = heard-by D es x (λ s. conflicts_with D s k) j c in
                after-start D es x j (calls_as D es x j o.whose (hearer D es j o.packet o.heard))

            w : FromList D es since j
            w = A.from_list x j v (omega (arith, started)) (omega arith) c

            S : Sender D R L es k T C x since j w
            S = sender_of D R L es k T C x since j w c

        pub by-then : (holds D es x k n ≡ true) ⊎ HeldBefore D es k name x n
        by-then =
            ⊎_elim (λ (f : First (λ j. hears D es x (λ s. conflicts_with D s k) j ≡ true) n). inr (told f.at f.below f.here)) (λ f. inl (calm f))
            (first_below (λ j. hears D es x (λ s. conflicts_with D s k) j ≡ true) (λ j. is_true (hears D es x (λ s. conflicts_with D s k) j)) n)

    -- and at every later one
    pub someone :
        (n : ℕ) → n ≤ until → n < length es → time_at D es x + holding_time < time_at D es n → (holds D es x k n ≡ true) ⊎ HeldBefore D es k name x n
    someone n h l beyond = go (first_below (λ j. time_at D es x + holding_time < time_at D es j) (λ j. dec_lt (time_at D es x + holding_time) (time_at D es j)) n)
      where
        later : (m : ℕ) → x < m → m < n → (holds D es x k m ≡ true) ⊎ HeldBefore D es k name x m → (holds D es x k n ≡ true) ⊎ HeldBefore D es k name x n
        later m a' b (inl e) = inl (keeps D R L T C es P k name since until A n h x m v (omega arith) (omega arith) e)
        later m a' b (inr e) =
            inr
            (record {
              holder = e.holder;
              other = e.other;
              wanted = e.wanted;
              moment = e.moment;
              before = omega (arith, e.before);
              held = e.held;
              holding = keeps D R L T C es P k name since until A n h e.holder m e.wanted (omega arith) (omega arith) e.holding;
            })

        go : First (λ j. time_at D es x + holding_time < time_at D es j) n ⊎ ((j : ℕ) → j < n → time_at D es x + holding_time < time_at D es j → ⊥)
            → (holds D es x k n ≡ true) ⊎ HeldBefore D es k name x n
        go (inr f) = by-then n h l beyond f
        go (inl f) =
            later f.at (x<n f.at (omega (arith, f.below)) (omega (arith, f.below)) f.here f.not-before) f.below
            (by-then f.at (omega (arith, f.below)) (omega (arith, f.below)) f.here f.not-before)
