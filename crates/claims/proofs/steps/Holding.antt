-- What a tick does to the query that is held at a place: it stays as it is; or it is due, and its answers, by the state that the tick is given, are what the
-- tick sends; or it is due and has nothing to send. Assumes nothing.
use Prim.Native.Nat.{ℕ}
use mathlib.Core.Path.{◌≡◌, refl, sym, subst, ap, ◌∙◌}
use mathlib.Core.Bool.{Bool, true, false}
use native.Mathlib.Omega.{arith}
use Rattle.claims.specs.records.Sets.{any_of, records_of}
use Rattle.claims.specs.Time.{due_by}
use Rattle.claims.specs.Claims.{claim_of, held_now}
use Rattle.claims.specs.holds.Holds.{no_hold, hold_at, with_hold}
use Rattle.claims.specs.answers.Answers.{wanted_of}
use Rattle.claims.specs.declared.ClaimState.{ClaimState}
use Rattle.claims.specs.declared.ClaimState.TheVariants.{Waiting, Probing1, Probing2, Probing3, Deferred, Announced, Held, Lost}
use Rattle.claims.specs.declared.records.Claim.{Claim}
use Rattle.claims.specs.declared.records.Claim.TheVariants.{Instance, Host}
use Rattle.claims.specs.declared.records.Set.{Set}
use Rattle.claims.specs.declared.holds.Hold.{Hold}
use Rattle.claims.specs.declared.holds.Holds.{Holds}
use Rattle.claims.specs.declared.holds.Place.{Place}
use Rattle.claims.specs.declared.holds.Place.TheVariants.{First, Second, Third, Fourth}
use Rattle.claims.specs.declared.Progress.{Progress}
use Rattle.claims.specs.steps.Steps.{hold_due, taken_action}
use Rattle.claims.specs.steps.Tick.{with_claim, without_reply, without_hold, sends, ptr_reply, reply_turn, hold_answers, hold_turn, claim_turn, with_last, ended_of, tick_of}
use Rattle.claims.specs.declared.steps.Action.TheVariants as action
use Rattle.claims.specs.declared.steps.Output.{Output}
use Rattle.claims.specs.declared.steps.Output.TheVariants.{Nothing, Probe, Response}
use Rattle.claims.specs.declared.steps.Turn.{Turn}
use Rattle.claims.proofs.steps.Walk.{quiet, sends-by, walk, claim_by, reply-by, hold-by}
use Rattle.claims.proofs.steps.Ticks.{with-claim_holds}
use Rattle.claims.proofs.steps.Moves.{sends-any, any_records}

clash : {A : Type 0} → ◌≡◌ {A = ℕ} 0 1 → A
clash z = absurd (omega arith)

never : {A : Type 0} → ◌≡◌ {A = Bool} false true → A
never h = let z : ◌≡◌ {A = ℕ} 0 1 = cc in absurd (omega arith)

-- one place, or two, of which one is freed without the other
data Places (p q : Place) : Type 0 where
  one : p ≡ q → Places p q
  two : ((holds : Holds) → hold_at p (with_hold q no_hold holds) ≡ hold_at p holds) → Places p q

places_of : (p q : Place) → Places p q
places_of First First = one refl
places_of First Second = two (λ h. refl)
places_of First Third = two (λ h. refl)
places_of First Fourth = two (λ h. refl)
places_of Second First = two (λ h. refl)
places_of Second Second = one refl
places_of Second Third = two (λ h. refl)
places_of Second Fourth = two (λ h. refl)
places_of Third First = two (λ h. refl)
places_of Third Second = two (λ h. refl)
places_of Third Third = one refl
places_of Third Fourth = two (λ h. refl)
places_of Fourth First = two (λ h. refl)
places_of Fourth Second = two (λ h. refl)
places_of Fourth Third = two (λ h. refl)
places_of Fourth Fourth = one refl

freed : (p : Place) (holds : Holds) → hold_at p (with_hold p no_hold holds) ≡ no_hold
freed First holds = refl
freed Second holds = refl
freed Third holds = refl
freed Fourth holds = refl

-- a set of no record sends nothing
sends_none : (set : Set) (now : ℕ) (l : Progress) → any_of set ≡ false → sends set now l ≡ quiet l
unfolding sends
sends_none set now l e = simp e

-- a claim that takes its second step is held before it and after it
still_held : (c c' : ClaimState) (now : ℕ) → taken_action c now ≡ action.Repeat c' → held_now c' ≡ held_now c
still_held (Waiting due) c' now e = clash (cc)
still_held (Probing1 due) c' now e = clash (cc)
still_held (Probing2 due) c' now e = clash (cc)
still_held (Probing3 due) c' now e = clash (cc)
still_held (Deferred due) c' now e = clash (cc)
still_held (Announced due) c' now e = let z : Held ≡ c' = cc in ap held_now (sym z)
still_held Held c' now e = clash (cc)
still_held Lost c' now e = clash (cc)

module _ (place : Place) (aaaa : Bool) (now : ℕ) (start : Progress) where
  -- from the state that the tick is given to the one that it leaves, where it sends `o`
  pub data HoldMove (after : Progress) (o : Output) : Type 0 where
    waits : hold_at place after.holds ≡ hold_at place start.holds → HoldMove after o
    answered : due_by (hold_due place start) now ≡ true → hold_at place after.holds ≡ no_hold → o ≡ Response (hold_answers place aaaa now start) → HoldMove after o
    passes : due_by (hold_due place start) now ≡ true → hold_at place after.holds ≡ no_hold → any_of (hold_answers place aaaa now start) ≡ false → HoldMove after o

  -- nothing has gone out yet, and the claims that are held are those that were
  record Same (l : Progress) : Type 0 where
    sent : l.sent ≡ start.sent
    instance : held_now l.instance ≡ held_now start.instance
    host : held_now l.host ≡ held_now start.host

  abbrev Quiet : Output → Progress → Type 0
  Quiet Nothing l = Same l
  Quiet (Probe k) l = Unit {0}
  Quiet (Response set) l = Unit {0}

  abbrev Holding : Turn → Type 0
  Holding t = HoldMove t.progress t.output × Quiet t.output t.progress

  -- a later change that leaves the place alone
  goes_on_lem : (l x : Progress) (o : Output) → hold_at place x.holds ≡ hold_at place l.holds → HoldMove l Nothing → HoldMove x o
  goes_on_lem l x o e (waits f) = waits (e ∙ f)
  goes_on_lem l x o e (answered d f g) = clash (cc)
  goes_on_lem l x o e (passes d f g) = passes d (e ∙ f) g

  sending : (set : Set) (l x : Progress) → hold_at place x.holds ≡ hold_at place l.holds → HoldMove l Nothing → Same x → Holding (sends set now x)
  sending set l x e m s = sends-by now Holding set x (goes_on_lem l x Nothing e m, s) (goes_on_lem l _ (Response set) e m, tt)

  turn : (k : Claim) (l : Progress) → Holding (quiet l) → Holding (claim_turn k aaaa now l)
  turn k l q =
      claim_by now Holding k aaaa l q (λ c d e. (goes_on_lem l _ (Probe k) (kept c) q.0, tt))
      (λ c d e.
      subst Holding (sym (sends-any (records_of k aaaa) now (with_claim k c l) (any_records k aaaa)))
      (goes_on_lem l _ (Response (records_of k aaaa)) (kept c) q.0, tt))
      (λ c d e. sending _ l (with_claim k c l) (kept c) q.0 (same k c q.1 (still_held (claim_of k l) c now e)))
    where
      kept : (c : ClaimState) → hold_at place (with_claim k c l).holds ≡ hold_at place l.holds
      kept c = ap (hold_at place) (with-claim_holds k c l)

      same : (j : Claim) (c : ClaimState) → Same l → held_now c ≡ held_now (claim_of j l) → Same (with_claim j c l)
      same Instance c s e = record { sent = s.sent; instance = e ∙ s.instance; host = s.host }
      same Host c s e = record { sent = s.sent; instance = s.instance; host = e ∙ s.host }

  reply : (l : Progress) → Holding (quiet l) → Holding (reply_turn now l)
  reply l q =
      reply-by now Holding l q
      (λ d.
      sending (ptr_reply now l) l (without_reply l) refl q.0 (record { sent = q.1.sent; instance = q.1.instance; host = q.1.host }))

  -- what it asks for is due as it was
  same_answers : (l : Progress) → Same l → hold_at place l.holds ≡ hold_at place start.holds → hold_answers place aaaa now l ≡ hold_answers place aaaa now start
  unfolding hold_answers wanted_of
  same_answers l s e = simp (s.sent, s.instance, s.host, e)

  own : (l : Progress) → Holding (quiet l) → Holding (hold_turn place aaaa now l)
  own l (waits f, s) =
      hold-by now Holding place aaaa l (waits f, s)
      (λ d.
      ends (subst (λ (h : Hold). due_by h.due now ≡ true) f d) (hold_answers place aaaa now l) (same_answers l s f))
    where
      ends : due_by (hold_due place start) now ≡ true → (set : Set) → set ≡ hold_answers place aaaa now start → Holding (sends set now (without_hold place l))
      ends d set e = go (any_of set) refl
        where
          go : (b : Bool) → any_of set ≡ b → Holding (sends set now (without_hold place l))
          go true a =
              subst Holding (sym (sends-any set now (without_hold place l) a)) (answered d (freed place l.holds) (ap Response e), tt)
          go false a =
              subst Holding (sym (sends_none set now (without_hold place l) a))
              (passes d (freed place l.holds) (ap any_of (sym e) ∙ a), record { sent = s.sent; instance = s.instance; host = s.host })
  own l (answered d f g, s) = clash (cc)
  own l (passes d f g, s) =
      hold-by now Holding place aaaa l (passes d f g, s) (λ e. never (subst (λ (h : Hold). due_by h.due now ≡ true) f e))

  hold : (p : Place) (l : Progress) → Holding (quiet l) → Holding (hold_turn p aaaa now l)
  hold p l q = go (places_of place p)
    where
      go : Places place p → Holding (hold_turn p aaaa now l)
      go (one e) = subst (λ (x : Place). Holding (hold_turn x aaaa now l)) e (own l q)
      go (two e) =
          hold-by now Holding p aaaa l q
          (λ d.
          sending (hold_answers p aaaa now l) l (without_hold p l) (e l.holds) q.0
          (record { sent = q.1.sent; instance = q.1.instance; host = q.1.host }))

  pub tick-hold : HoldMove (tick_of start now aaaa).progress (tick_of start now aaaa).output
  unfolding tick_of ended_of
  tick-hold = last (walk now Holding aaaa start (waits refl, record { sent = refl; instance = refl; host = refl }) turn reply hold).0
    where
      last : {l : Progress} {o : Output} → HoldMove l o → HoldMove (with_last now l) o
      last (waits f) = waits f
      last (answered d f g) = answered d f g
      last (passes d f g) = passes d f g
