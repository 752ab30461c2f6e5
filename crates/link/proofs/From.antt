-- Demand 3's premises are those of joined links (specs/Joined.antt) from the first entry on. Assumes nothing.
use mathlib.Core.Path.{◌≡◌, refl, subst}
use mathlib.Core.Logic.{inl, ⊎_elim}
use mathlib.Core.Bool.{true}
use mathlib.Core.List.{List}
use Prim.Native.Nat.{ℕ, suc, ◌+◌}
use native.Mathlib.Omega.{arith}
use Rattle.link.specs.Responder.{Responder}
use Rattle.link.specs.Entries.{Entry, time_at, clock_at, runs, accepted_at}
use Rattle.link.specs.Premises.{Premises}
use Rattle.link.specs.Joined.{CallOf, PremisesFrom}

module _ (D : Responder) where
  pub from_first : (es : List (Entry D)) → Premises D es → PremisesFrom D es 0 0
  from_first es P =
      record {
        address = P.address;
        since = λ n b h. omega arith;
        in_order = λ n b h. P.in_order n h;
        one_rate = λ d m n bm bn a b. omega (arith, rate d m a, rate d n b);
        delivered = λ i j e p b l. P.delivered i j e p;
        on_time = λ d m n u bm bn h a e. inl (omega (arith, rate d m a, P.on_time d n u h e));
      }
    where
      rate : (d n : ℕ) → CallOf D es d n → clock_at D es n + time_at D es d ≡ clock_at D es d + time_at D es n
      rate d n c =
          ⊎_elim
          (λ (a : accepted_at D es n ≡ true).
          subst (λ (i : ℕ). clock_at D es n + time_at D es i ≡ clock_at D es i + time_at D es n) c.whose (P.one_rate n a))
          (λ (a : (n ≡ d) × (runs D es d (suc d) ≡ true)).
          subst (λ (i : ℕ). clock_at D es n + time_at D es i ≡ clock_at D es i + time_at D es n) a.0 refl)
          c.not_refused
