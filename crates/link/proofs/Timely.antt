-- Conclusion 2: a responder that hears no conflicting response and no later probe holds its name 1,200 ms after its start, or after the last update that finds
-- it not holding (InTime.antt). Assumes nothing.
use mathlib.Core.Path.{◌≡◌, sym, ◌∙◌, ap}
use mathlib.Core.Logic.{inl, inr, ⊎_elim}
use mathlib.Core.Bool.{true, false}
use mathlib.Core.Option.{Option, none, some}
use mathlib.Core.List.{List}
use Prim.Native.Nat.{ℕ, suc, ◌+◌, ◌≤◌, ◌<◌}
use native.Mathlib.Omega.{arith}
use Rattle.link.specs.Responder.{Responder, Claim, instance}
use Rattle.link.specs.Entries.{Entry, Call, clock_of, clock_at, after, is_some, update_at}
use Rattle.link.specs.Premises.{Premises}
use Rattle.link.specs.Holding.{holds}
use Rattle.link.specs.Demand3.{Unopposed}
use Rattle.link.specs.Laws.{most_draw, Stage, waiting, held, Step, updates, time_of, next, Rules, Lawful}
use Rattle.link.proofs.InTime.{Gained, in_time_lem}
use Rattle.link.proofs.Lists.{clash}
use Rattle.link.proofs.States.{Calls, Event, idle, ends, begins, moves, event, after-start, not-before, ran_before, updater, calls_as, called-accepted}
use Rattle.link.specs.Joined.{CallOf}
use Rattle.link.proofs.From.{from_first}
use Rattle.link.proofs.Steps.{act, update-step}
use Rattle.link.proofs.Stages.{stage_of_lem, ready_as, stage_before, stage_after}
use Rattle.link.proofs.Held.{holds-held}
use Rattle.link.proofs.Claims.{list, course, held-holds, Upsets, begun, ended, contradicted, defeated, restarted}

module _
    (D : Responder) (R : Rules D) (L : Lawful D R) (es : List (Entry D)) (P : Premises D es) (d : ℕ) (k : Claim) (b n : ℕ)
    (U : Unopposed D es d k b n)
  where
    open D use {State, Update}

    abbrev stage : ℕ → Stage
    stage m = stage_of_lem D R (after D es d m) k

    -- the call at b sets the claim waiting
    record Set : Type 0 where
      acts : CallOf D es d b
      due : ℕ
      waits : stage (suc b) ≡ waiting due
      soon : due ≤ clock_at D es b + most_draw
      started : d ≤ b

    at-start : b ≡ d → Set
    unfolding clock_of
    at-start s = go (event D es d b)
      where
        none_after : after D es d (suc b) ≡ none → Set
        none_after p =
            clash (let z : false ≡ true = ap is_some (sym p) ∙ ran_before D es d (suc b) n (omega arith) (omega (arith, U.before)) U.running in cc)

        go : Event D es d b → Set
        go (idle p g) = none_after (p ∙ not-before D es d b (omega arith))
        go (ends p) = none_after p
        go (begins t w draw x o f q p) =
            let v = L.begun t w draw x q in
            let clock : clock_at D es b ≡ w = ap (λ (c : Call D). clock_of D c) f in
            record {
              acts = record { whose = U.whose; not_refused = inr (s, ran_before D es d (suc d) n (omega arith) (omega (arith, U.before)) U.running) };
              due = v.due k;
              waits = ap (λ (a : Option State). stage_of_lem D R a k) p ∙ v.waits k;
              soon = omega (arith, v.soon k);
              started = omega arith;
            }
        go (moves c p) = absurd (omega (arith, after-start D es d b c))

    at-update : (new : Update) → update_at D es b ≡ some new → instance ≡ k → holds D es d k b ≡ false → Set
    at-update new e a h =
        let c : Calls D es d b = calls_as D es d b U.whose (updater D es b new e) in
        set c (update-step D R L es d b c new e)
      where
        set : (c : Calls D es d b) → (act D R L es d b c).step ≡ updates new → Set
        set c f =
            ⊎_elim
            (λ (w : (u : ℕ) × (R.stage (next D R c.state (updates new)) instance ≡ waiting u) × (u ≤ D.update_time new + most_draw)).
            let r : Set =
            record {
              acts = record { whose = U.whose; not_refused = inl (called-accepted D es d b c) };
              due = w.0;
              waits =
                  stage_after D R L es d b (act D R L es d b c).setup (act D R L es d b c).has c k
                  ∙ ap (λ (t : Step D). R.stage (next D R c.state t) k) f
                  ∙ ap (λ (l : Claim). R.stage (next D R c.state (updates new)) l) (sym a)
                  ∙ w.1;
              soon = omega (arith, w.2, ap (λ (t : Step D). time_of D t) (sym f) ∙ (act D R L es d b c).clock);
              started = omega (arith, after-start D es d b c);
            }
            in
            r)
            (λ w.
            let was : stage b ≡ held =
            stage_before D R L es d b (act D R L es d b c).setup (act D R L es d b c).has c k ∙ ap (λ (l : Claim). R.stage c.state l) (sym a) ∙ w.0
            in
            clash (let z : false ≡ true = sym h ∙ held-holds D R L es 0 0 (from_first D es P) d k b was in cc))
            (L.renewed (act D R L es d b c).setup c.state new
            (ready_as D R L es d b (act D R L es d b c).setup (act D R L es d b c).has c (updates new) f))

    begins-there : Set
    begins-there = ⊎_elim at-start (λ w. at-update w.1.0 w.1.1 (sym w.0) w.1.2) U.from

    calm : (m : ℕ) → b < m → m < n → Upsets D R es d k m → ⊥
    calm m a h (begun e) = omega (arith, begins-there.started)
    calm m a h (ended e) =
        clash
        (let z : false ≡ true = ap is_some (sym e) ∙ ran_before D es d (suc m) n (omega (arith, begins-there.started)) h U.running in cc)
    calm m a h (contradicted e) = clash (let z : true ≡ false = sym e ∙ U.no_conflict m a h in cc)
    calm m a h (defeated e) = clash (let z : true ≡ false = sym e ∙ U.no_later m a h in cc)
    calm m a h (restarted new o e w f) = f (holds-held D R L es d k m (U.last m new (sym w) a h o e))

    pub timely : holds D es d k n ≡ true
    unfolding list course
    timely =
        let g : Gained (list D es 0 0 (from_first D es P)) (course D R L es 0 0 (from_first D es P) d k) b n =
        in_time_lem (list D es 0 0 (from_first D es P)) (course D R L es 0 0 (from_first D es P) d k) b n
        (record {
          from-base = omega arith;
          b<n = U.before;
          in_list = U.in_list;
          beyond = U.beyond;
          acts = begins-there.acts;
          due = begins-there.due;
          waits = begins-there.waits;
          soon = begins-there.soon;
          calm = calm;
        })
        in
        held-holds D R L es 0 0 (from_first D es P) d k n (g.after n g.at<n (omega arith))
