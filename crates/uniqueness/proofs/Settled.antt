-- The premise about due steps can be met: a sound state (any that an accepted call returns) is ticked at any time from its last one to 2^62, and after
-- as many ticks in one millisecond as a tick walks steps, seven, nothing is due then. Assumes nothing.
use Rattle.std.specs.Prelude.{Option, Some, None, Result, Ok, Err}
use mathlib.Core.Path.{◌≡◌, refl, ap, subst, ◌∙◌}
use mathlib.Core.Logic.{◌⊎◌, inl, inr}
use mathlib.Core.Bool.{false}
use mathlib.Core.List.{List, [], ◌∷◌}
use Prim.Native.Nat.{ℕ, zero, suc, ◌≤◌, ◌<◌}
use native.Mathlib.Omega.{arith}
use lib.ListN.{length}
use borrow.Author.Tests.{le-ltb, leb-false}
use mathlib.Mathlib.Data.Bool.Basic.{or-eq-false-eq-eq-false-and-eq-false as neither}
use Rattle.wire.specs.refusals.Numbers.{number_in, refused_by}
use Rattle.wire.specs.declared.refusals.Refusal.{Refusal}
use Rattle.wire.proofs.refusals.Tests.{numbers_from-1}
use Rattle.claims.specs.Time.{last_time, due_by}
use Rattle.claims.specs.records.Sets.{some_of}
use Rattle.claims.specs.declared.Progress.{Progress}
use Rattle.claims.specs.Refusals.{wrong_time}
use Rattle.claims.specs.steps.Steps.{steps, step_due, more_due}
use Rattle.claims.specs.declared.steps.Step.{Step}
use Rattle.claims.proofs.steps.Ticks.{tick-last}
use Rattle.claims.proofs.steps.Settles.{ticks, all-ticks}
use Rattle.responder.specs.Refusals.{tick_tests, tick_refusal}
use Rattle.responder.specs.Calls.{answer_of, walked_of, ticked_packet, tick_of}
use Rattle.responder.specs.Runs.{ticked}
use Rattle.responder.specs.declared.State.{State}
use Rattle.responder.proofs.Refusals.{tick-by}
use Rattle.responder.proofs.Closure.{Sound, sound_time, accepted_sound}
use Rattle.link.specs.Responder as link
use Rattle.link.specs.Responder.{everyone, Parcel}
use Rattle.link.specs.Premises.{Among}
use Rattle.responder.specs.Handed.{Tick}
use Rattle.uniqueness.specs.Responder.{sends, listed, due_times, answered_by, tick, due}
use Rattle.uniqueness.specs.Rules.{with}
use Rattle.uniqueness.proofs.Lists.{out_append}
use Rattle.uniqueness.proofs.Calls.{accepted_with, ticked-state}

-- a tick that is accepted, from x to y
abbrev pub Ticks : State → Tick → State → Type 0
Ticks x t y = (ps : List Parcel) × (tick x t ≡ link.accepted y ps)

-- so many ticks that are accepted, one after the other
pub data InTicks (t : Tick) (x : State) : ℕ → State → Type 0 where
  nothing : InTicks t x 0 x
  onward : {n : ℕ} {y z : State} → InTicks t x n y → Ticks y t z → InTicks t x (suc n) z

module _ (t : Tick) (time : t.time ≤ last_time) (long : 1452 ≤ t.room) where
  abbrev now : ℕ
  now = t.time

  abbrev next : State → State
  next x = with x (walked_of x now).progress

  not-refused : (x : State) → Sound x → x.progress.last ≤ now → tick_refusal x t ≡ 0
  unfolding tick_refusal
  not-refused x s l =
      let e : wrong_time x.progress now ≡ false = sound_time x now s ∙ rw (le-ltb last_time now time, le-ltb now x.progress.last l) refl in
      rw (e, le-ltb t.room 1452 long, s.right) refl

  answered : (r : Result (Unit {0}) Refusal) (p : List ℕ) (y : State) → number_in r ≡ 0
      → answered_by (answer_of r p []) y (sends everyone p) ≡ link.accepted y (sends everyone p)
  answered (Ok u) p y e = accepted_with (length p) 0 y (sends everyone p)
  answered (Err refusal) p y e = absurd (omega (arith, numbers_from-1 refusal))

  accepts : (x : State) → Sound x → x.progress.last ≤ now → Ticks x t (next x)
  unfolding tick tick_of
  accepts x s l =
      let n = not-refused x s l in (
        sends everyone (ticked_packet x t),
        answered (refused_by (tick_tests x t)) (ticked_packet x t) (tick_of x t).state (tick-by x t ∙ n)
            ∙ ap (λ (y : State). link.accepted y (sends everyone (ticked_packet x t))) (ticked-state x t n),
      )

  sound_next : (x : State) → Sound x → x.progress.last ≤ now → Sound (next x)
  sound_next x s l = let n = not-refused x s l in subst Sound (ticked-state x t n) (accepted_sound x (ticked t) n)

  last-next : (x : State) → (next x).progress.last ≤ now
  last-next x = rw (tick-last now x.setup.hasaaaa x.progress) (omega arith)

  -- nothing is due then
  in_listed : (w : Option ℕ) (u : ℕ) → Among u (listed w) → due_by w now ≡ false → now < u
  in_listed None u h e = absurd h
  in_listed (Some v) u (inl e) f = let l : now < v = leb-false v now f in omega arith
  in_listed (Some v) u (inr h) f = absurd h

  none-due : (ss : List Step) (progress : Progress) → some_of (λ s. due_by (step_due s progress) now) ss ≡ false → (u : ℕ) → Among u (due_times ss progress) → now < u
  unfolding due_times some_of
  none-due [] progress m u h = absurd h
  none-due (s ∷ ss) progress m u h =
      let a = (neither (due_by (step_due s progress) now) (some_of (λ i. due_by (step_due i progress) now) ss)).0 m in
      go (none-due ss progress a.1 u) a.0 (out_append u (listed (step_due s progress)) (due_times ss progress) h)
    where
      go : (Among u (due_times ss progress) → now < u) → due_by (step_due s progress) now ≡ false → Among u (listed (step_due s progress)) ⊎ Among u (due_times ss progress)
          → now < u
      go more d (inl k) = in_listed (step_due s progress) u k d
      go more d (inr k) = more k

  later : (x : State) → more_due x.progress now ≡ false → (u : ℕ) → Among u (due x) → now < u
  unfolding due more_due
  later x m u h = none-due steps x.progress m u h

  -- after so many ticks
  abbrev nexts : ℕ → State → State
  nexts zero x = x
  nexts (suc n) x = next (nexts n x)

  nexts_is : (n : ℕ) (x : State) → nexts n x ≡ with x (ticks x.setup.hasaaaa now time n x.progress)
  nexts_is zero x = refl
  nexts_is (suc n) x = ap next (nexts_is n x)

  all_sound : (n : ℕ) (x : State) → Sound x → x.progress.last ≤ now → Sound (nexts n x) × ((nexts n x).progress.last ≤ now)
  all_sound zero x s l = (s, l)
  all_sound (suc n) x s l = let r = all_sound n x s l in (sound_next (nexts n x) r.0 r.1, last-next (nexts n x))

  all-accepted : (n : ℕ) (x : State) → Sound x → x.progress.last ≤ now → InTicks t x n (nexts n x)
  all-accepted zero x s l = nothing
  all-accepted (suc n) x s l = let r = all_sound n x s l in onward (all-accepted n x s l) (accepts (nexts n x) r.0 r.1)

  -- Seven ticks are accepted, and after them every due time is later.
  pub settles : (x : State) → Sound x → x.progress.last ≤ now → (y : State) × InTicks t x 7 y × ((u : ℕ) → Among u (due y) → now < u)
  settles x s l = (
    nexts 7 x,
    all-accepted 7 x s l,
    later (nexts 7 x)
        (ap (λ (y : State). more_due y.progress now) (nexts_is 7 x) ∙ all-ticks x.setup.hasaaaa now time x.progress),
  )
