-- Responders that want one name: their data while they are not updated, what one of them hears, and who sent a response that conflicts. Assumes nothing.
use mathlib.Core.Path.{◌≡◌, refl, sym, ◌∙◌, ap, subst}
use mathlib.Core.Bool.{Bool, true, false, not, ◌&&◌, ◌||◌}
use mathlib.Core.Option.{Option, none, some}
use mathlib.Core.List.{List}
use Prim.Native.Nat.{ℕ, zero, suc, ◌≤◌, ◌<◌}
use native.Mathlib.Omega.{arith}
use native.Mathlib.Decide.{dec_le, ℕ_discrete}
use lib.Dec.{eqb}
use borrow.Author.Tests.{eq-eqb, eqb-true}
use Rattle.link.specs.Responder.{Responder, Parcel, Claim, Answer, refused, accepted}
use Rattle.link.specs.Entries.{Entry, Call, starts, ticks, receives, stops, updates, cut, call_at, owner_at, after, runs, reply_at, sent_at, heard_at, setup_in, setup_of, revised, data_at, update_in, update_at}
use Rattle.link.specs.Premises.{Among}
use Rattle.link.specs.Holding.{is_and, any_of, responds_for, conflicts_with, writes, hears, holds}
use Rattle.link.specs.Laws.{data_after, Sent, Rules, out, Lawful}
use Rattle.link.specs.Contention.{Tiebreak, wants, FromList}
use Rattle.link.specs.Candid.{Contradicts, Candid}
use Rattle.link.proofs.Lists.{clash, and_left, and_right, and_both, any_of_lem, is-from, is-of, message_of_lem}
use Rattle.link.proofs.States.{Calls, start-owner, owned-data, data_passed, called-sent, sender, starter, left, is-running, after-start}
use Rattle.link.proofs.Data.{Kin, kin}
use Rattle.link.proofs.Steps.{Act, act}

module _ (D : Responder) (es : List (Entry D)) where
  open D use {Setup, State}

  -- ---- data

  -- an entry after its start that is no update of the responder keeps its data
  step_keeps : (d n : ℕ) → d < n → (owner_at D es n ≡ d → update_at D es n ≡ none) → data_at D es d (suc n) ≡ data_at D es d n
  unfolding revised update_in
  step_keeps d n l quiet = go (ℕ_discrete (owner_at D es n) d)
    where
      by : (w : Call D) → call_at D es n ≡ w → (a : Answer State) → reply_at D es n ≡ a → owner_at D es n ≡ d → (o : Option Setup) → revised D w a o ≡ o
      by (starts t now draw) f a h o q = absurd (omega (arith, start-owner D es n now draw t f))
      by (ticks b t) f a h o q = refl
      by (receives b p) f a h o q = refl
      by (stops b t) f a h o q = refl
      by (updates b u) f refused h o q = refl
      by (updates b u) f (accepted x ps) h o q =
          clash
          (let z : some u ≡ none =
          sym (ap (λ (v : Call D). update_in D v (reply_at D es n)) f ∙ ap (λ (v : Answer State). update_in D (updates b u) v) h) ∙ quiet o
          in
          cc)
      by (cut b) f a h o q = refl

      go : Dec (owner_at D es n ≡ d) → data_at D es d (suc n) ≡ data_at D es d n
      go (yes o) = owned-data D es d n o ∙ by (call_at D es n) refl (reply_at D es n) refl o (data_at D es d n)
      go (no o) = data_passed D es d n o

  pub data_kept :
      (d m n : ℕ) → d < m → m ≤ n → ((j : ℕ) → m ≤ j → j < n → owner_at D es j ≡ d → update_at D es j ≡ none) → data_at D es d n ≡ data_at D es d m
  data_kept d m zero l h quiet = absurd (omega arith)
  data_kept d m (suc n) l h quiet = go (dec_le m n) (λ b. data_kept d m n l b (λ j a c. quiet j a (omega arith)))
    where
      go : Dec (m ≤ n) → (m ≤ n → data_at D es d n ≡ data_at D es d m) → data_at D es d (suc n) ≡ data_at D es d m
      go (yes b) ih = step_keeps d n (omega arith) (quiet n b (omega arith)) ∙ ih b
      go (no b) ih = let e : suc n ≡ m = omega arith in ap (data_at D es d) e

  -- after its start it has the data that it was started with
  pub first-data : (d : ℕ) (s : Setup) → setup_of D es d ≡ some s → data_at D es d (suc d) ≡ some s
  unfolding setup_in revised
  first-data d s e = owned-data D es d d (starter D es d s e) ∙ go (call_at D es d) e
    where
      go : (w : Call D) → setup_in D w ≡ some s → revised D w (reply_at D es d) (data_at D es d d) ≡ some s
      go (starts t now draw) f = f
      go (ticks b t) f = clash (cc)
      go (receives b p) f = clash (cc)
      go (stops b t) f = clash (cc)
      go (updates b u) f = clash (cc)
      go (cut b) f = clash (cc)

  -- ---- what is heard

  -- responder d hears, at entry n, a packet that passes the test for its data
  pub record Heard (d : ℕ) (f : Setup → List ℕ → Bool) (n : ℕ) : Type 0 where
    pub whose : owner_at D es n ≡ d
    pub setup : Setup
    pub has : data_at D es d n ≡ some setup
    pub packet : List ℕ
    pub heard : heard_at D es n ≡ some packet
    pub passes : f setup packet ≡ true

  pub heard-by : (d : ℕ) (f : Setup → List ℕ → Bool) (n : ℕ) → hears D es d f n ≡ true → Heard d f n
  unfolding hears
  heard-by d f n h =
      let s = is-from test (data_at D es d n) (and_right (eqb (owner_at D es n) d) (is_and test (data_at D es d n)) h) in
      let p = is-from (f s.0) (heard_at D es n) s.2 in
      record {
        whose = eqb-true (owner_at D es n) d (and_left (eqb (owner_at D es n) d) (is_and test (data_at D es d n)) h);
        setup = s.0;
        has = s.1;
        packet = p.0;
        heard = p.1;
        passes = p.2;
      }
    where
      test : Setup → Bool
      test s = is_and (f s) (heard_at D es n)

  pub hears_of : (d : ℕ) (f : Setup → List ℕ → Bool) (n : ℕ) → Heard d f n → hears D es d f n ≡ true
  unfolding hears
  hears_of d f n w =
      and_both (eqb (owner_at D es n) d) (is_and test (data_at D es d n)) (eq-eqb (owner_at D es n) d w.whose)
      (is-of test (data_at D es d n) w.setup w.has (is-of (f w.setup) (heard_at D es n) w.packet w.heard w.passes))
    where
      test : Setup → Bool
      test s = is_and (f s) (heard_at D es n)

  -- who holds runs
  pub holder-runs : (d : ℕ) (k : Claim) (n : ℕ) → holds D es d k n ≡ true → runs D es d n ≡ true
  unfolding holds
  holder-runs d k zero h = clash (cc)
  holder-runs d k (suc n) h =
      and_left (runs D es d (suc n)) (writes D es d k n || (not (hears D es d (λ s. conflicts_with D s k) n) && holds D es d k n)) h

module _ (D : Responder) (R : Rules D) (L : Lawful D R) (es : List (Entry D)) (k : Claim) where
  open D use {Setup, Message}

  -- ---- names

  -- a responder's name stays
  pub same_named : (d m n : ℕ) (s t : Setup) → data_at D es d m ≡ some s → data_at D es d n ≡ some t → D.name s k ≡ D.name t k
  same_named d m n s t p q =
      let a : Kin D R L es d k 0 s = kin D R L es d k 0 m s p in
      let b : Kin D R L es d k 0 t = kin D R L es d k 0 n t q in
      let z : some a.first ≡ some b.first = sym a.started ∙ b.started in
      let y : a.first ≡ b.first = cc in
      a.named ∙ ap (λ (u : Setup). D.name u k) y ∙ sym b.named

  module _ (name : List ℕ) where
    pub wanted_name : (d n : ℕ) (s : Setup) → wants D es k name d ≡ true → data_at D es d n ≡ some s → D.same_name name (D.name s k) ≡ true
    unfolding wants
    wanted_name d n s w p =
        let u = is-from (λ (t : Setup). D.same_name name (D.name t k)) (setup_of D es d) w in
        let a : Kin D R L es d k 0 s = kin D R L es d k 0 n s p in
        let z : some a.first ≡ some u.0 = sym a.started ∙ u.1 in
        let y : a.first ≡ u.0 = cc in
        ap (λ (b : List ℕ). D.same_name name b) (a.named ∙ ap (λ (t : Setup). D.name t k) y) ∙ u.2

    pub wants_it : (d n : ℕ) (s : Setup) → data_at D es d n ≡ some s → D.same_name name (D.name s k) ≡ true → wants D es k name d ≡ true
    unfolding wants
    wants_it d n s p w =
        let a : Kin D R L es d k 0 s = kin D R L es d k 0 n s p in
        is-of (λ (t : Setup). D.same_name name (D.name t k)) (setup_of D es d) a.first a.started
        (ap (λ (b : List ℕ). D.same_name name b) (sym a.named) ∙ w)

  -- ---- who sent it

  -- the parcel of entry i in messages
  pub record Spoken (i : ℕ) (p : Parcel) : Type 0 where
    pub calls : Calls D es (owner_at D es i) i
    pub sent : Sent Message
    pub among : Among sent (out D R calls.state (act D R L es (owner_at D es i) i calls).step)
    pub reads : D.read p.bytes ≡ some sent.message

  pub spoken : (i : ℕ) (p : Parcel) → Among p (sent_at D es i) → Spoken i p
  spoken i p h =
      let c : Calls D es (owner_at D es i) i = sender D es i p h in
      let w =
      message_of_lem D.read c.parcels (out D R c.state (act D R L es (owner_at D es i) i c).step) (act D R L es (owner_at D es i) i c).does.reads p
      (subst (λ (ps : List Parcel). Among p ps) (called-sent D es (owner_at D es i) i c) h)
      in
      record { calls = c; sent = w.0; among = w.1; reads = w.2 }

  -- who writes a response under its name holds it then
  pub writer_holds :
      (i : ℕ) (p : Parcel) (w : Spoken i p) (t : Setup) → Among p (sent_at D es i) → data_at D es (owner_at D es i) (suc i) ≡ some t
      → D.responds w.sent.message (D.name t k) ≡ true → holds D es (owner_at D es i) k (suc i) ≡ true
  unfolding holds writes responds_for
  writer_holds i p w t h has says =
      and_both (runs D es e (suc i)) (writes D es e k i || (not (hears D es e (λ s. conflicts_with D s k) i) && holds D es e k i))
      (is-running D es (after D es e (suc i)) w.calls.next (left D es e i w.calls))
      (or_first (writes D es e k i) (not (hears D es e (λ s. conflicts_with D s k) i) && holds D es e k i) wrote)
    where
      e : ℕ
      e = owner_at D es i

      or_first : (a b : Bool) → a ≡ true → (a || b) ≡ true
      or_first true b z = refl
      or_first false b z = clash (cc)

      mine : Setup
      mine = (act D R L es e i w.calls).setup

      mine_has : data_at D es e i ≡ some mine
      mine_has = (act D R L es e i w.calls).has

      says-mine : D.responds w.sent.message (D.name mine k) ≡ true
      says-mine = ap (λ (b : List ℕ). D.responds w.sent.message b) (same_named e i (suc i) mine t mine_has has) ∙ says

      wrote : writes D es e k i ≡ true
      wrote =
          and_both (eqb (owner_at D es i) e)
          (is_and (λ (s : Setup). any_of (λ (q : Parcel). responds_for D s k q.bytes) (sent_at D es i)) (data_at D es e i))
          (eq-eqb (owner_at D es i) e refl)
          (is-of (λ (s : Setup). any_of (λ (q : Parcel). responds_for D s k q.bytes) (sent_at D es i)) (data_at D es e i) mine mine_has
          (any_of_lem (λ (q : Parcel). responds_for D mine k q.bytes) p (sent_at D es i) h
          (is-of (λ (m : Message). D.responds m (D.name mine k)) (D.read p.bytes) w.sent.message w.reads says-mine)))

  module _ (T : Tiebreak D) (C : Candid D R T) where
    -- the sender of a conflicting response that responder d heard at entry n holds the name with other data
    pub record Sender (d since n : ℕ) (w : FromList D es since n) : Type 0 where
      pub mine : Setup
      pub has : data_at D es d n ≡ some mine
      pub theirs : Setup
      pub left-with : data_at D es (owner_at D es w.at) (suc w.at) ≡ some theirs
      pub message : Message
      pub contradicts : Contradicts D R T theirs mine k message
      pub holding : holds D es (owner_at D es w.at) k (suc w.at) ≡ true
      pub started : owner_at D es w.at < w.at

    pub sender_of : (d since n : ℕ) (w : FromList D es since n) → hears D es d (λ s. conflicts_with D s k) n ≡ true → Sender d since n w
    unfolding conflicts_with
    sender_of d since n w h =
        record {
          mine = o.setup;
          has = o.has;
          theirs = data_after D a.step a.setup;
          left-with = a.leaves;
          message = v.sent.message;
          contradicts = says;
          holding = writer_holds w.at w.parcel v (data_after D a.step a.setup) w.sent a.leaves says.under;
          started = after-start D es (owner_at D es w.at) w.at v.calls;
        }
      where
        o : Heard D es d (λ s. conflicts_with D s k) n
        o = heard-by D es d (λ s. conflicts_with D s k) n h

        v : Spoken w.at w.parcel
        v = spoken w.at w.parcel w.sent

        a : Act D R L es (owner_at D es w.at) w.at v.calls
        a = act D R L es (owner_at D es w.at) w.at v.calls

        conflicts : D.conflicts v.sent.message o.setup k ≡ true
        conflicts =
            let m = is-from (λ (b : Message). D.conflicts b o.setup k) (D.read o.packet) o.passes in
            let z : some o.packet ≡ some w.parcel.bytes = sym o.heard ∙ w.heard in
            let y : o.packet ≡ w.parcel.bytes = cc in
            let u : some m.0 ≡ some v.sent.message = sym m.1 ∙ ap D.read y ∙ v.reads in
            let same : m.0 ≡ v.sent.message = cc in
            ap (λ (b : Message). D.conflicts b o.setup k) (sym same) ∙ m.2

        says : Contradicts D R T (data_after D a.step a.setup) o.setup k v.sent.message
        says = C.candid a.setup v.calls.state a.step v.sent o.setup k a.ready v.among conflicts
