-- A list that passes the test of specs/Witness.antt from an entry on meets the premises from there. Assumes nothing.
use mathlib.Core.Path.{◌≡◌, refl, sym, ◌∙◌, ap, subst}
use mathlib.Core.Logic.{◌⊎◌, inl, inr, ⊎_elim}
use mathlib.Core.Bool.{Bool, true, false, not, ◌&&◌, ◌||◌}
use mathlib.Core.Option.{Option, none, some}
use mathlib.Core.List.{List}
use Prim.Native.Nat.{ℕ, suc, ◌+◌, ◌-◌, ◌≤◌, ◌<◌}
use native.Mathlib.Omega.{arith}
use lib.ListN.{length}
use lib.Dec.{leb, eqb}
use borrow.Author.Tests.{leb-true, le-leb, eqb-true, eq-eqb, not-true}
use Rattle.link.specs.Responder.{Responder, Parcel}
use Rattle.link.specs.Entries.{Entry, time_at, clock_at, owner_at, after, is_some, runs, accepted_at, sent_at, update_at}
use Rattle.link.specs.Premises.{Among, lateness, due_in}
use Rattle.link.specs.Joined.{CallOf, PremisesFrom, Unchanged}
use Rattle.link.specs.Witness.{every, all_of, delivered_to, every_from, starts_at, ordered_from, at_rates, delivered_from, on_time_from, meets_from, unchanged_from}
use Rattle.link.proofs.Lists.{clash, and_left, and_right, and_both, or_either, or_right}
use Rattle.link.proofs.Order.{called-in_list, begun-in_list, update-in_list}
use Rattle.link.proofs.Witness.{below, all_from, if_so, sent_accepted, started-before, due-runs, delivered_by}

pub from-below : (m n : ℕ) (f : ℕ → Bool) → every_from m n f ≡ true → (i : ℕ) → m ≤ i → i < n → f i ≡ true
from-below m n f h i l b = if_so (leb m i) (f i) (below n (λ (j : ℕ). not (leb m j) || f j) h i b) (le-leb m i l)

or_left : (a b : Bool) → a ≡ true → (a || b) ≡ true
or_left true b h = refl
or_left false b h = clash (cc)

module _ (D : Responder) (es : List (Entry D)) (clock : ℕ → ℕ × ℕ) (joining moment : ℕ) where
  open D use {State, Update}

  rate :
      at_rates D es clock joining ≡ true → (d n : ℕ) → joining ≤ n → n < length es → CallOf D es d n → clock_at D es n + (clock d).0 ≡ time_at D es n + (clock d).1
  unfolding at_rates starts_at
  rate h d n l b c =
      subst (λ (i : ℕ). clock_at D es n + (clock i).0 ≡ time_at D es n + (clock i).1) c.whose
      (eqb-true (clock_at D es n + (clock (owner_at D es n)).0) (time_at D es n + (clock (owner_at D es n)).1)
      (if_so (accepted_at D es n || starting n) (rated n)
      (from-below joining (length es) (λ (i : ℕ). not (accepted_at D es i || starting i) || rated i) h n l b) called))
    where
      rated : ℕ → Bool
      rated i = eqb (clock_at D es i + (clock (owner_at D es i)).0) (time_at D es i + (clock (owner_at D es i)).1)

      starting : ℕ → Bool
      starting i = eqb (owner_at D es i) i && runs D es i (suc i)

      called : (accepted_at D es n || starting n) ≡ true
      called =
          ⊎_elim (λ (a : accepted_at D es n ≡ true). or_left (accepted_at D es n) (starting n) a)
          (λ (a : (n ≡ d) × (runs D es d (suc d) ≡ true)).
          or_right (accepted_at D es n) (starting n)
          (and_both (eqb (owner_at D es n) n) (runs D es n (suc n)) (eq-eqb (owner_at D es n) n (c.whose ∙ sym a.0))
          (subst (λ (i : ℕ). runs D es i (suc i) ≡ true) (sym a.0) a.1)))
          c.not_refused

  -- a call of a responder stands in the list
  call-in_list : (d n : ℕ) → CallOf D es d n → n < length es
  call-in_list d n c =
      ⊎_elim (λ (a : accepted_at D es n ≡ true). called-in_list D es n a)
      (λ (a : (n ≡ d) × (runs D es d (suc d) ≡ true)). start_in-list n d a.0 a.1)
      c.not_refused
    where
      start_in-list : (i e : ℕ) → i ≡ e → runs D es e (suc e) ≡ true → i < length es
      start_in-list i e s r = begun-in_list D es i (subst (λ (j : ℕ). runs D es j (suc j) ≡ true) (sym s) r)

  due-by :
      on_time_from D es clock joining moment ≡ true → (d n u : ℕ) → joining ≤ n → n < length es → Among u (due_in D (after D es d n))
      → (time_at D es n + (clock d).1 ≤ u + lateness + (clock d).0) ⊎ (time_at D es n ≤ moment + lateness)
  unfolding on_time_from
  due-by h d n u l b a =
      ⊎_elim (λ (e : leb (time_at D es n) (moment + lateness) ≡ true). inr (leb-true (time_at D es n) (moment + lateness) e))
      (λ (e : every n (λ (i : ℕ). all_of (in_time_lem i) (due_in D (after D es i n))) ≡ true).
      inl
      (leb-true (time_at D es n + (clock d).1) (u + lateness + (clock d).0)
      (all_from (in_time_lem d) (due_in D (after D es d n))
      (below n (λ (i : ℕ). all_of (in_time_lem i) (due_in D (after D es i n))) e d (started-before D es d n (due-runs D es u (after D es d n) a))) u a)))
      (or_either (leb (time_at D es n) (moment + lateness)) (every n (λ (i : ℕ). all_of (in_time_lem i) (due_in D (after D es i n))))
      (from-below joining (length es)
      (λ (m : ℕ).
      leb (time_at D es m) (moment + lateness)
      || every m (λ (i : ℕ). all_of (λ (v : ℕ). leb (time_at D es m + (clock i).1) (v + lateness + (clock i).0)) (due_in D (after D es i m)))) h n l b))
    where
      in_time_lem : ℕ → ℕ → Bool
      in_time_lem i v = leb (time_at D es n + (clock i).1) (v + lateness + (clock i).0)

  pub met_from : (address : ℕ → List ℕ) → meets_from D es address clock joining moment ≡ true → PremisesFrom D es joining moment
  unfolding meets_from ordered_from delivered_from
  met_from address h =
      let order = and_left (ordered_in) (at_rates D es clock joining && (delivered_from D es address joining && on_time_from D es clock joining moment)) h in
      let rest = and_right (ordered_in) (at_rates D es clock joining && (delivered_from D es address joining && on_time_from D es clock joining moment)) h in
      let rates = and_left (at_rates D es clock joining) (delivered_from D es address joining && on_time_from D es clock joining moment) rest in
      let last = and_right (at_rates D es clock joining) (delivered_from D es address joining && on_time_from D es clock joining moment) rest in
      let packets = and_left (delivered_from D es address joining) (on_time_from D es clock joining moment) last in
      let due = and_right (delivered_from D es address joining) (on_time_from D es clock joining moment) last in
      record {
        address = address;
        since = λ n l b.
            leb-true moment (time_at D es n)
            (from-below joining (length es) (λ (i : ℕ). leb moment (time_at D es i)) (and_left first_part second_part order) n l b);
        in_order = λ n l b.
            leb-true (time_at D es n) (time_at D es (suc n))
            (from-below joining (length es - 1) (λ (i : ℕ). leb (time_at D es i) (time_at D es (suc i))) (and_right first_part second_part order) n l
            (omega arith));
        one_rate = λ d m n bm bn a b. omega (arith, rate rates d m bm (call-in_list d m a) a, rate rates d n bn (call-in_list d n b) b);
        delivered = λ i j e p l b s.
            delivered_by D es address i
            (from-below joining (length es) (λ (n : ℕ). all_of (λ (q : Parcel). every n (delivered_to D es address n q)) (sent_at D es n)) packets i l
            (called-in_list D es i (sent_accepted D es i p s)))
            j e p s;
        on_time = λ d m n u bm bn b a e. late d m n u (rate rates d m bm (call-in_list d m a) a) (due-by due d n u bn b e);
      }
    where
      first_part : Bool
      first_part = every_from joining (length es) (λ n. leb moment (time_at D es n))

      second_part : Bool
      second_part = every_from joining (length es - 1) (λ n. leb (time_at D es n) (time_at D es (suc n)))

      ordered_in : Bool
      ordered_in = first_part && second_part

      late : (d m n u : ℕ) → clock_at D es m + (clock d).0 ≡ time_at D es m + (clock d).1
          → (time_at D es n + (clock d).1 ≤ u + lateness + (clock d).0) ⊎ (time_at D es n ≤ moment + lateness)
          → (time_at D es n + clock_at D es m ≤ u + lateness + time_at D es m) ⊎ (time_at D es n ≤ moment + lateness)
      late d m n u e (inl l) = inl (omega arith)
      late d m n u e (inr l) = inr l

  pub unchanged : unchanged_from D es joining ≡ true → Unchanged D es joining
  unfolding unchanged_from
  unchanged h n l = go (update_at D es n) refl
    where
      go : (o : Option Update) → update_at D es n ≡ o → o ≡ none
      go none e = refl
      go (some u) e =
          clash
          (let f : is_some (update_at D es n) ≡ false =
          not-true (is_some (update_at D es n)) (from-below joining (length es) (λ (i : ℕ). not (is_some (update_at D es i))) h n l (update-in_list D es n u e))
          in
          let z : false ≡ true = sym f ∙ ap (λ (p : Option Update). is_some p) e in
          cc)
