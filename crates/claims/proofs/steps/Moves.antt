-- What a tick does to one claim, by the step it takes: the whole of a claim's life but for what it hears. Assumes nothing.
use Prim.Native.Nat.{ℕ}
use mathlib.Core.Path.{◌≡◌, refl, sym, subst, ◌∙◌, ap}
use mathlib.Core.Bool.{Bool, true, false, cond}
use native.Mathlib.Omega.{arith}
use Rattle.claims.specs.records.Sets.{some_of, no_record, records_of, any_of, only, under}
use Rattle.claims.specs.Claims.{claim_of, held_now}
use Rattle.claims.specs.declared.ClaimState.{ClaimState}
use Rattle.claims.specs.declared.ClaimState.TheVariants.{Waiting, Probing1, Probing2, Probing3, Deferred, Announced, Held, Lost}
use Rattle.claims.specs.answers.Answers.{wanted_of}
use Rattle.claims.specs.declared.holds.Place.{Place}
use Rattle.claims.specs.declared.records.Claim.{Claim}
use Rattle.claims.specs.declared.records.Claim.TheVariants.{Instance, Host}
use Rattle.claims.specs.declared.records.Own.TheVariants.{Ptr}
use Rattle.claims.specs.declared.records.Set.{Set}
use Rattle.claims.specs.declared.Progress.{Progress}
use Rattle.claims.specs.steps.Steps.{steps, claim_due, taken_action, unsent_of}
use Rattle.claims.specs.steps.Tick.{with_claim, without_reply, sends, ptr_reply, reply_turn, without_hold, hold_answers, hold_turn, claim_turn, ended_of, walked, tick_of, probes_for, concerns}
use Rattle.claims.specs.declared.steps.Action.TheVariants as action
use Rattle.claims.specs.declared.steps.Output.{Output}
use Rattle.claims.specs.declared.steps.Output.TheVariants.{Nothing, Probe, Response}
use Rattle.claims.specs.declared.steps.Turn.{Turn}
use Rattle.claims.proofs.steps.Walk.{quiet, responds, sends-by, walk, claim_by, reply-by, hold-by}
use Rattle.claims.proofs.steps.Ticks.{Whose, own, other, whose, claim_with_sent, claim_without_reply, claim_without_hold, claim_last}
use Rattle.claims.proofs.steps.Spacing.{not_same, claim_same}

clash : {A : Type 0} → ◌≡◌ {A = ℕ} 0 1 → A
clash z = absurd (omega arith)

-- From the claim `c` to `c'`, in a tick that sends `o`: nothing of the claim is due, or it sends a probe, its first announcement, or its second, which may
-- leave something for a later step to send; or a held query is answered, and the claim is held.
pub data Move (k : Claim) (aaaa : Bool) (now : ℕ) (c c' : ClaimState) (o : Output) : Type 0 where
  stays : c' ≡ c → concerns k o ≡ false → Move k aaaa now c c' o
  probes : claim_due c now ≡ true → taken_action c now ≡ action.Probe c' → o ≡ Probe k → Move k aaaa now c c' o
  announces : claim_due c now ≡ true → taken_action c now ≡ action.Announce c' → o ≡ Response (records_of k aaaa) → Move k aaaa now c c' o
  repeats : claim_due c now ≡ true → taken_action c now ≡ action.Repeat c' → probes_for k o ≡ false → Move k aaaa now c c' o
  answers : (set : Set) → c' ≡ c → held_now c ≡ true → o ≡ Response set → Move k aaaa now c c' o

pub sends-any : (set : Set) (now : ℕ) (l : Progress) → any_of set ≡ true → sends set now l ≡ responds set now l
unfolding sends
sends-any set now l e = simp e

pub any_records : (k : Claim) (aaaa : Bool) → any_of (records_of k aaaa) ≡ true
unfolding any_of some_of records_of
any_records Instance aaaa = refl
any_records Host aaaa = refl

-- the records of the other claim, all or those not sent, are not under the name
under-other : (k j : Claim) (aaaa : Bool) → (k ≡ j → ⊥) → under k (records_of j aaaa) ≡ false
unfolding some_of records_of
under-other Instance Instance aaaa n = absurd (n refl)
under-other Instance Host aaaa n = refl
under-other Host Instance aaaa n = refl
under-other Host Host aaaa n = absurd (n refl)

under-unsent : (k j : Claim) (aaaa : Bool) (l : Progress) (now : ℕ) → (k ≡ j → ⊥) → under k (unsent_of (records_of j aaaa) l.sent now) ≡ false
unfolding some_of unsent_of records_of
under-unsent Instance Instance aaaa l now n = absurd (n refl)
under-unsent Instance Host aaaa l now n = refl
under-unsent Host Instance aaaa l now n = refl
under-unsent Host Host aaaa l now n = absurd (n refl)

under-reply : (k : Claim) (now : ℕ) (l : Progress) → under k (ptr_reply now l) ≡ false
unfolding ptr_reply some_of unsent_of only
under-reply k now l = go k (held_now l.instance)
  where
    go : (j : Claim) (held : Bool) → under j (cond held (unsent_of (only Ptr) l.sent now) no_record) ≡ false
    go Instance true = refl
    go Instance false = refl
    go Host true = refl
    go Host false = refl

-- no record of a claim that is not held answers a held query
under-held : (k : Claim) (l : Progress) (place : Place) (aaaa : Bool) (now : ℕ)
    → held_now (claim_of k l) ≡ false
    → under k (hold_answers place aaaa now l) ≡ false
unfolding hold_answers wanted_of some_of
under-held Instance l place aaaa now e = simp e
under-held Host l place aaaa now e = simp e

-- after its second step a claim is held and nothing of it is due
pub repeated : (c c' : ClaimState) (now : ℕ) → taken_action c now ≡ action.Repeat c' → c' ≡ Held
repeated (Waiting due) c' now e = clash (cc)
repeated (Probing1 due) c' now e = clash (cc)
repeated (Probing2 due) c' now e = clash (cc)
repeated (Probing3 due) c' now e = clash (cc)
repeated (Deferred due) c' now e = clash (cc)
repeated (Announced due) c' now e = cc
repeated Held c' now e = clash (cc)
repeated Lost c' now e = clash (cc)

module _ (k : Claim) (aaaa : Bool) (now : ℕ) (before : ClaimState) where
  abbrev Moves : Turn → Type 0
  Moves t = Move k aaaa now before (claim_of k t.progress) t.output

  -- a later step that sends something of no concern to the claim
  aside : (c' : ClaimState) (o : Output) → concerns k o ≡ false → probes_for k o ≡ false → Move k aaaa now before c' Nothing → Move k aaaa now before c' o
  aside c' o n p (stays e m) = stays e n
  aside c' o n p (probes d s e) = clash (cc)
  aside c' o n p (announces d s e) = clash (cc)
  aside c' o n p (repeats d s m) = repeats d s p
  aside c' o n p (answers set e h f) = clash (cc)

  moved : (l x : Progress) (o : Output) → claim_of k x ≡ claim_of k l → Moves (record { progress = l; output = o }) → Moves (record { progress = x; output = o })
  moved l x o e q = subst (λ (c : ClaimState). Move k aaaa now before c o) (sym e) q

  aside_sends : (set : Set) (l : Progress) → under k set ≡ false → Moves (quiet l) → Moves (sends set now l)
  aside_sends set l n q =
      sends-by now Moves set l q (moved l _ (Response set) (claim_with_sent k set now l) (aside (claim_of k l) (Response set) n refl q))

  -- the claim's own turn, where it is as it was before the tick
  own_turn : (l : Progress) → claim_of k l ≡ before → Moves (claim_turn k aaaa now l)
  own_turn l e =
      claim_by now Moves k aaaa l (stays e refl)
      (λ c d s. probes (rw e at d) (rw e at s ∙ ap action.Probe (sym (claim_same k c l))) refl)
      (λ c d s.
      subst Moves (sym (sends-any (records_of k aaaa) now (with_claim k c l) (any_records k aaaa)))
      (announces (rw e at d)
      (rw e at s ∙ ap action.Announce (sym (claim_with_sent k (records_of k aaaa) now (with_claim k c l) ∙ claim_same k c l))) refl))
      (λ c d s.
      sends-by now Moves _ (with_claim k c l) (repeats (rw e at d) (rw e at s ∙ ap action.Repeat (sym (claim_same k c l))) refl)
      (repeats (rw e at d)
      (rw e at s ∙ ap action.Repeat (sym (claim_with_sent k (unsent_of (records_of k aaaa) l.sent now) now (with_claim k c l) ∙ claim_same k c l)))
      refl))

  -- its turn, where it has taken its second step
  idle_turn : (l : Progress) → claim_of k l ≡ Held → Moves (quiet l) → Moves (claim_turn k aaaa now l)
  idle_turn l e q = claim_by now Moves k aaaa l q (λ c d s. clash (cc (idle e))) (λ c d s. clash (cc (idle e))) (λ c d s. clash (cc (idle e)))
    where
      idle : claim_of k l ≡ Held → taken_action (claim_of k l) now ≡ action.Idle
      idle f = rw f

  other-turn : (j : Claim) (l : Progress) → ((c : ClaimState) (x : Progress) → claim_of k (with_claim j c x) ≡ claim_of k x) → (k ≡ j → ⊥) → Moves (quiet l)
      → Moves (claim_turn j aaaa now l)
  other-turn j l same apart q =
      claim_by now Moves j aaaa l q
      (λ c d s. moved l _ (Probe j) (same c l) (aside (claim_of k l) (Probe j) (not_same k j apart) (not_same k j apart) q))
      (λ c d s. aside_sends _ (with_claim j c l) (under-other k j aaaa apart) (moved l _ Nothing (same c l) q))
      (λ c d s. aside_sends _ (with_claim j c l) (under-unsent k j aaaa l now apart) (moved l _ Nothing (same c l) q))

  turn : (j : Claim) (l : Progress) → Moves (quiet l) → Moves (claim_turn j aaaa now l)
  turn j l q = go (whose k j) q
    where
      go : Whose k j → Moves (quiet l) → Moves (claim_turn j aaaa now l)
      go (own e) (stays f n) = subst (λ (i : Claim). Moves (claim_turn i aaaa now l)) e (own_turn l f)
      go (own e) (probes d s f) = clash (cc)
      go (own e) (announces d s f) = clash (cc)
      go (own e) (repeats d s p) =
          subst (λ (i : Claim). Moves (claim_turn i aaaa now l)) e (idle_turn l (repeated before (claim_of k l) now s) (repeats d s p))
      go (own e) (answers set f h o) = clash (cc)
      go (other same apart) r = other-turn j l same apart r

  reply-turn : (l : Progress) → Moves (quiet l) → Moves (reply_turn now l)
  reply-turn l q =
      reply-by now Moves l q
      (λ d. aside_sends (ptr_reply now l) (without_reply l) (under-reply k now l) (moved l _ Nothing (claim_without_reply k l) q))

  -- a later step that sends what may concern the claim, where it is held then
  concerned : (c' : ClaimState) (set : Set) → held_now c' ≡ true → Move k aaaa now before c' Nothing → Move k aaaa now before c' (Response set)
  concerned c' set h (stays e m) = answers set e (rw e at h) refl
  concerned c' set h (probes d s e) = clash (cc)
  concerned c' set h (announces d s e) = clash (cc)
  concerned c' set h (repeats d s m) = repeats d s refl
  concerned c' set h (answers sent e g f) = clash (cc)

  hold-turn : (place : Place) (l : Progress) → Moves (quiet l) → Moves (hold_turn place aaaa now l)
  hold-turn place l q =
      hold-by now Moves place aaaa l q
      (λ d.
      sends-by now Moves (hold_answers place aaaa now l) (without_hold place l) (moved l _ Nothing (claim_without_hold k place l) q)
      (moved l _ (Response (hold_answers place aaaa now l))
      (claim_with_sent k (hold_answers place aaaa now l) now (without_hold place l) ∙ claim_without_hold k place l)
      (go (held_now (claim_of k l)) refl)))
    where
      go : (held : Bool) → held_now (claim_of k l) ≡ held → Move k aaaa now before (claim_of k l) (Response (hold_answers place aaaa now l))
      go true e = concerned (claim_of k l) (hold_answers place aaaa now l) e q
      go false e = aside (claim_of k l) (Response (hold_answers place aaaa now l)) (under-held k l place aaaa now e) refl q

-- what a tick does to a claim
pub tick-move :
    (k : Claim) (aaaa : Bool) (now : ℕ) (progress : Progress)
    → Move k aaaa now (claim_of k progress) (claim_of k (tick_of progress now aaaa).progress) (tick_of progress now aaaa).output
unfolding tick_of ended_of
tick-move k aaaa now progress =
    rw (claim_last now aaaa k (walked steps aaaa now progress).progress)
    (walk now (Moves k aaaa now (claim_of k progress)) aaaa progress (stays refl refl) (turn k aaaa now (claim_of k progress)) (reply-turn k aaaa now (claim_of k progress))
    (hold-turn k aaaa now (claim_of k progress)))
