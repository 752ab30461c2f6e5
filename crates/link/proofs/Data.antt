-- A responder's data along the list: its name and the types it carries stay as at its start. Assumes nothing.
use mathlib.Core.Path.{◌≡◌, refl, sym, ◌∙◌, ap, subst}
use mathlib.Core.Option.{Option, none, some}
use mathlib.Core.List.{List}
use Prim.Native.Nat.{ℕ, zero, suc}
use native.Mathlib.Decide.{ℕ_discrete}
use Rattle.link.specs.Responder.{Responder, Parcel, Claim, Answer, refused, accepted}
use Rattle.link.specs.Entries.{Entry, Call, starts, ticks, receives, stops, updates, cut, call_at, owner_at, reply_at, setup_in, setup_of, revised, data_at}
use Rattle.link.specs.Laws.{Rules, Lawful}
use Rattle.link.proofs.Lists.{clash}
use Rattle.link.proofs.States.{start-owner, owned-data, data_passed}

-- the record of a claim and type in the data, if there are
abbrev pub record_in : (D : Responder) → Claim → ℕ → Option D.Setup → Option (List ℕ)
record_in D k type none = none
record_in D k type (some s) = D.rdata s k type

module _ (D : Responder) (R : Rules D) (L : Lawful D R) (es : List (Entry D)) (d : ℕ) (k : Claim) (type : ℕ) where
  open D use {Setup, State}

  -- the set-up that it was started with, with one name and a record of the type; and so the data s
  pub record Kin (s : Setup) : Type 0 where
    pub first : Setup
    pub started : setup_of D es d ≡ some first
    pub named : D.name s k ≡ D.name first k
    pub onward : (a : List ℕ) → D.rdata first k type ≡ some a → (b : List ℕ) × (D.rdata s k type ≡ some b)
    pub back : (b : List ℕ) → D.rdata s k type ≡ some b → (a : List ℕ) × (D.rdata first k type ≡ some a)

  pub kin : (n : ℕ) (s : Setup) → data_at D es d n ≡ some s → Kin s
  unfolding data_at revised setup_in
  kin zero s e = clash (let z : none ≡ some s = e in cc)
  kin (suc n) s e = whose (ℕ_discrete (owner_at D es n) d) (kin n)
    where
      began : (t : Setup) (now draw : ℕ) → call_at D es n ≡ starts t now draw → owner_at D es n ≡ d → some t ≡ some s → Kin s
      began t now draw f o g =
          let i : n ≡ d = sym (start-owner D es n now draw t f) ∙ o in
          let c : setup_of D es n ≡ some s = ap (λ (w : Call D). setup_in D w) f ∙ g in
          record {
            first = s;
            started = subst (λ (j : ℕ). setup_of D es j ≡ some s) i c;
            named = refl;
            onward = λ a h. (a, h);
            back = λ a h. (a, h);
          }

      new : (v : D.Update) (o : Option Setup) → ((t : Setup) → o ≡ some t → Kin t) → (x : State) (ps : List Parcel)
          → revised D (updates d v) (accepted x ps) o ≡ some s → Kin s
      new v none ih x ps g = clash (let z : none ≡ some s = g in cc)
      new v (some t) ih x ps g =
          let z : some (D.revise v t) ≡ some s = g in
          let y : D.revise v t ≡ s = cc in
          let q : Kin t = ih t refl in
          subst (λ (u : Setup). Kin u) y
          (record {
            first = q.first;
            started = q.started;
            named = L.revise_name v t k ∙ q.named;
            onward = λ a h. L.revise_carries v t k type (q.onward a h).0 (q.onward a h).1;
            back = λ b h. q.back (L.revise_carried v t k type b h).0 (L.revise_carried v t k type b h).1;
          })

      by : (w : Call D) → call_at D es n ≡ w → (a : Answer State) → reply_at D es n ≡ a → owner_at D es n ≡ d → ((t : Setup) → data_at D es d n ≡ some t → Kin t)
          → revised D w a (data_at D es d n) ≡ some s → Kin s
      by (starts t now draw) f a h o ih g = began t now draw f o g
      by (ticks b t) f a h o ih g = ih s g
      by (receives b p) f a h o ih g = ih s g
      by (stops b t) f a h o ih g = ih s g
      by (updates b v) f refused h o ih g = ih s g
      by (updates b v) f (accepted x ps) h o ih g = new v (data_at D es d n) ih x ps (go (data_at D es d n) g)
        where
          go : (q : Option Setup) → revised D (updates b v) (accepted x ps) q ≡ some s → revised D (updates d v) (accepted x ps) q ≡ some s
          go none r = r
          go (some t) r = r
      by (cut b) f a h o ih g = ih s g

      whose : Dec (owner_at D es n ≡ d) → ((t : Setup) → data_at D es d n ≡ some t → Kin t) → Kin s
      whose (yes o) ih = by (call_at D es n) refl (reply_at D es n) refl o ih (sym (owned-data D es d n o) ∙ e)
      whose (no o) ih = ih s (sym (data_passed D es d n o) ∙ e)
