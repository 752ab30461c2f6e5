-- How a property goes through a tick: from one turn to the next, up to the first that sends. Assumes nothing.
use Prim.Native.Nat.{ℕ, ◌+◌, ◌<◌, ◌≤◌}
use mathlib.Core.Path.{◌≡◌, refl, sym, subst, ap, ◌∙◌}
use mathlib.Core.Logic.{◌⊎◌, inl, inr}
use mathlib.Core.Bool.{Bool, true, false, cond}
use mathlib.Core.List.{List, [], ◌∷◌}
use lib.ListN.{length, get_or, drop, drop_of_length-le}
use Rattle.claims.specs.records.Sets.{any_of, records_of}
use Rattle.claims.specs.Time.{due_by, marked_all}
use Rattle.claims.specs.Claims.{claim_of}
use Rattle.claims.specs.declared.ClaimState.{ClaimState}
use Rattle.claims.specs.declared.holds.Place.{Place}
use Rattle.claims.specs.declared.records.Claim.{Claim}
use Rattle.claims.specs.declared.records.Set.{Set}
use Rattle.claims.specs.declared.Progress.{Progress}
use Rattle.claims.specs.steps.Steps.{steps, hold_due, step_due, claim_due, taken_action, action_of, unsent_of}
use Rattle.claims.specs.steps.Tick.{with_claim, with_sent, without_reply, sends, action_turn, claim_turn, ptr_reply, reply_turn, without_hold, hold_answers, hold_turn, step_turn, or_else, walked}
use Rattle.claims.specs.declared.steps.Step.{Step}
use Rattle.claims.specs.declared.steps.Step.TheVariants.{OfClaim, PtrReply, OfHold}
use Rattle.claims.specs.declared.steps.Action.{Action}
use Rattle.claims.specs.declared.steps.Action.TheVariants as action
use Rattle.claims.specs.declared.steps.Output.{Output}
use Rattle.claims.specs.declared.steps.Output.TheVariants.{Nothing, Probe, Response}
use Rattle.claims.specs.declared.steps.Turn.{Turn}
use Rattle.claims.proofs.records.Searched.{rest}

-- a turn that sends nothing and changes nothing
abbrev pub quiet : Progress → Turn
quiet l = record { progress = l; output = Nothing }

-- a turn that sends the records of a set
abbrev pub responds : Set → ℕ → Progress → Turn
responds set now l = record { progress = with_sent (marked_all set l.sent now) l; output = Response set }

module _ (now : ℕ) (Q : Turn → Type 0) where
  pub sends-by : (set : Set) (l : Progress) → Q (quiet l) → Q (responds set now l) → Q (sends set now l)
  unfolding sends
  sends-by set l q r = go (any_of set)
    where
      go : (b : Bool) → Q (cond b (responds set now l) (quiet l))
      go true = r
      go false = q

  pub or_else_lem : (t : Turn) (next : Progress → Turn) → Q t → ((l : Progress) → Q (quiet l) → Q (next l)) → Q (or_else t.output t next)
  or_else_lem t next q more = go t.output refl
    where
      go : (o : Output) → t.output ≡ o → Q (or_else o t next)
      go Nothing e = more t.progress (subst (λ (o : Output). Q (record { progress = t.progress; output = o })) e q)
      go (Probe k) e = q
      go (Response set) e = q

  -- what each turn keeps, the walk keeps
  pub walk_by :
      (ss : List Step) (aaaa : Bool) (progress : Progress)
      → Q (quiet progress)
      → ((s : Step) (l : Progress) → Q (quiet l) → Q (step_turn s aaaa now l))
      → Q (walked ss aaaa now progress)
  unfolding walked
  walk_by [] aaaa progress q turn = q
  walk_by (s ∷ ss) aaaa progress q turn =
      or_else_lem (step_turn s aaaa now progress) (walked ss aaaa now) (turn s progress q) (λ l r. walk_by ss aaaa l r turn)

  pub walk :
      (aaaa : Bool) (progress : Progress)
      → Q (quiet progress)
      → ((k : Claim) (l : Progress) → Q (quiet l) → Q (claim_turn k aaaa now l))
      → ((l : Progress) → Q (quiet l) → Q (reply_turn now l))
      → ((place : Place) (l : Progress) → Q (quiet l) → Q (hold_turn place aaaa now l))
      → Q (walked steps aaaa now progress)
  unfolding step_turn
  walk aaaa progress q turn reply hold = walk_by steps aaaa progress q each
    where
      each : (s : Step) (l : Progress) → Q (quiet l) → Q (step_turn s aaaa now l)
      each (OfClaim k) l r = turn k l r
      each PtrReply l r = reply l r
      each (OfHold place) l r = hold place l r

  -- a claim's turn, by what its step does
  pub claim_by :
      (k : Claim) (aaaa : Bool) (l : Progress)
      → Q (quiet l)
      → ((c : ClaimState) → claim_due (claim_of k l) now ≡ true → taken_action (claim_of k l) now ≡ action.Probe c → Q (record { progress = with_claim k c l; output = Probe k }))
      → ((c : ClaimState)
      → claim_due (claim_of k l) now ≡ true
      → taken_action (claim_of k l) now ≡ action.Announce c
      → Q (sends (records_of k aaaa) now (with_claim k c l)))
      → ((c : ClaimState)
      → claim_due (claim_of k l) now ≡ true
      → taken_action (claim_of k l) now ≡ action.Repeat c
      → Q (sends (unsent_of (records_of k aaaa) l.sent now) now (with_claim k c l)))
      → Q (claim_turn k aaaa now l)
  unfolding claim_turn action_of action_turn
  claim_by k aaaa l q probe first second = go (claim_due (claim_of k l) now) (taken_action (claim_of k l) now) refl refl
    where
      go : (b : Bool) (s : Action) → claim_due (claim_of k l) now ≡ b → taken_action (claim_of k l) now ≡ s → Q (action_turn (cond b s action.Idle) k aaaa now l)
      go false s d e = q
      go true action.Idle d e = q
      go true (action.Probe c) d e = probe c d e
      go true (action.Announce c) d e = first c d e
      go true (action.Repeat c) d e = second c d e

  -- the turn of the PTR reply
  pub reply-by : (l : Progress) → Q (quiet l) → (due_by l.reply now ≡ true → Q (sends (ptr_reply now l) now (without_reply l))) → Q (reply_turn now l)
  unfolding reply_turn
  reply-by l q due = go (due_by l.reply now) refl
    where
      go : (b : Bool) → due_by l.reply now ≡ b → Q (cond b (sends (ptr_reply now l) now (without_reply l)) (quiet l))
      go true e = due e
      go false e = q

  -- the turn of a held query
  pub hold-by :
      (place : Place) (aaaa : Bool) (l : Progress)
      → Q (quiet l)
      → (due_by (hold_due place l) now ≡ true → Q (sends (hold_answers place aaaa now l) now (without_hold place l)))
      → Q (hold_turn place aaaa now l)
  unfolding hold_turn
  hold-by place aaaa l q due = go (due_by (hold_due place l) now) refl
    where
      go : (b : Bool) → due_by (hold_due place l) now ≡ b → Q (cond b (sends (hold_answers place aaaa now l) now (without_hold place l)) (quiet l))
      go true e = due e
      go false e = q

-- a step that is not due is passed
pub passed : (s : Step) (aaaa : Bool) (now : ℕ) (l : Progress) → due_by (step_due s l) now ≡ false → step_turn s aaaa now l ≡ quiet l
unfolding step_turn claim_turn action_of action_turn reply_turn hold_turn
passed (OfClaim k) aaaa now l e = rw e
passed PtrReply aaaa now l e = rw e
passed (OfHold place) aaaa now l e = rw e

-- ---- a walk, step by step

module _ (ss : List Step) (aaaa : Bool) (now : ℕ) (l : Progress) (i : ℕ) (d : Step) (h : i < length ss) (t : Turn) (is : t ≡ step_turn (get_or ss i d) aaaa now l) where
  here : walked (drop i ss) aaaa now l ≡ or_else t.output t (walked (drop (i + 1) ss) aaaa now)
  unfolding walked
  here =
      ap (λ (x : List Step). walked x aaaa now l) (rest ss i d h)
      ∙ ap (λ (u : Turn). or_else u.output u (walked (drop (i + 1) ss) aaaa now)) (sym is)

  pub walk_probes : (k : Claim) → t.output ≡ Probe k → t ≡ walked (drop i ss) aaaa now l
  walk_probes k e = sym (here ∙ rw e)

  pub walk_responds : (set : Set) → t.output ≡ Response set → t ≡ walked (drop i ss) aaaa now l
  walk_responds set e = sym (here ∙ rw e)

  pub walk_sends :
      ((k : Claim) × (t.output ≡ Probe k)) ⊎ ((set : Set) × (t.output ≡ Response set))
      → t ≡ walked (drop i ss) aaaa now l
  walk_sends (inl (k, e)) = walk_probes k e
  walk_sends (inr (set, e)) = walk_responds set e

  pub walk_passes : t.output ≡ Nothing → walked (drop i ss) aaaa now l ≡ walked (drop (i + 1) ss) aaaa now t.progress
  walk_passes e = here ∙ rw e

pub walk_ends : (ss : List Step) (aaaa : Bool) (now : ℕ) (l : Progress) (i : ℕ) → length ss ≤ i → walked (drop i ss) aaaa now l ≡ quiet l
unfolding walked
walk_ends ss aaaa now l i h = ap (λ (x : List Step). walked x aaaa now l) (drop_of_length-le ss h)
