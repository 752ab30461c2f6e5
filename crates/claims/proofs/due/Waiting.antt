-- What the next due time promises a caller that waits for it: a step is due at a time exactly where that is not before the next due time, and a tick
-- with none due sends nothing and changes nothing but the time of the last call. Assumes nothing.
use Rattle.std.specs.Prelude.{Option, Some, None}
use mathlib.Core.Path.{◌≡◌, refl, sym, ap, ◌∙◌}
use mathlib.Core.Bool.{Bool, true, false, cond, ◌||◌, or_assoc, or-false}
use mathlib.Core.List.{List, [], ◌∷◌}
use Prim.Native.Nat.{ℕ, ◌≤◌, ◌<◌}
use native.Mathlib.Omega.{arith}
use lib.Dec.{leb}
use borrow.Author.Tests.{le-leb, lt-leb, leb-true, leb-false}
use mathlib.Mathlib.Data.Bool.Basic.{or-eq-false-eq-eq-false-and-eq-false as neither}
use Rattle.claims.specs.records.Sets.{some_of}
use Rattle.claims.specs.Time.{due_by}
use Rattle.claims.specs.declared.Progress.{Progress}
use Rattle.claims.specs.steps.Steps.{steps, step_due, more_due}
use Rattle.claims.specs.steps.Tick.{with_last, or_else, walked, ended_of, tick_of}
use Rattle.claims.specs.declared.steps.Step.{Step}
use Rattle.claims.specs.declared.steps.Output.TheVariants.{Nothing}
use Rattle.claims.specs.declared.steps.Turn.{Turn}
use Rattle.claims.specs.declared.steps.Ticked.{Ticked}
use Rattle.claims.specs.due.Due.{earliest, earliest_of, next_due}
use Rattle.claims.proofs.steps.Walk.{quiet, passed}

-- the earlier of two has come exactly where one of them has
either : (a b : Option ℕ) (now : ℕ) → due_by (earliest a b) now ≡ (due_by a now || due_by b now)
either None b now = refl
either (Some a) None now = alone (leb a now)
  where
    alone : (x : Bool) → x ≡ (x || false)
    alone true = refl
    alone false = refl
either (Some a) (Some b) now = go (leb a b) refl (leb a now) refl
  where
    go : (x : Bool) → leb a b ≡ x → (y : Bool) → leb a now ≡ y → due_by (cond x (Some a) (Some b)) now ≡ (leb a now || leb b now)
    go true e true f = rw f refl
    go true e false f =
        let l : a ≤ b = leb-true a b e in
        let m : now < a = leb-false a now f in
        let k : now < b = omega arith in
        rw (f, lt-leb b now k) refl
    go false e true f =
        let l : b < a = leb-false a b e in
        let m : a ≤ now = leb-true a now f in
        let k : b ≤ now = omega arith in
        rw (f, le-leb b now k) refl
    go false e false f = rw f refl

-- the earliest of some steps has come exactly where one of them has
some-come :
    (progress : Progress) (now : ℕ) (first : Option ℕ) (ss : List Step)
    → due_by (earliest_of progress first ss) now ≡ (due_by first now || some_of (λ s. due_by (step_due s progress) now) ss)
unfolding earliest_of some_of
some-come progress now first [] = sym (or-false (due_by first now))
some-come progress now first (s ∷ ss) =
    some-come progress now (earliest first (step_due s progress)) ss
    ∙ ap (λ (b : Bool). b || some_of (λ i. due_by (step_due i progress) now) ss) (either first (step_due s progress) now)
    ∙ or_assoc (due_by first now) (due_by (step_due s progress) now) (some_of (λ i. due_by (step_due i progress) now) ss)

pub due-exactly : (progress : Progress) (now : ℕ) → more_due progress now ≡ due_by (next_due progress) now
unfolding more_due next_due
due-exactly progress now = sym (some-come progress now None steps)

-- steps of which none is due are all passed
all-passed :
    (ss : List Step) (aaaa : Bool) (now : ℕ) (progress : Progress)
    → some_of (λ s. due_by (step_due s progress) now) ss ≡ false
    → walked ss aaaa now progress ≡ quiet progress
unfolding walked some_of
all-passed [] aaaa now progress e = refl
all-passed (s ∷ ss) aaaa now progress e =
    let n = (neither (due_by (step_due s progress) now) (some_of (λ i. due_by (step_due i progress) now) ss)).0 e in
    ap (λ (t : Turn). or_else t.output t (walked ss aaaa now)) (passed s aaaa now progress n.0) ∙ all-passed ss aaaa now progress n.1

pub idle_tick :
    (progress : Progress) (now : ℕ) (aaaa : Bool) → more_due progress now ≡ false
    → ◌≡◌ {A = Ticked} (tick_of progress now aaaa) (record { progress = with_last now progress; output = Nothing; more = false })
unfolding more_due tick_of ended_of
idle_tick progress now aaaa e =
    ap (λ (t : Turn). ended_of t now) (all-passed steps aaaa now progress e) ∙ (λ j. record { progress = with_last now progress; output = Nothing; more = e j })
