-- What the claims' rules want of a message's facts is what the specification says of the message itself. Assumes nothing.
use Rattle.std.specs.Prelude.{Option, Some, None}
use Prim.Native.Nat.{ℕ, ◌-◌}
use mathlib.Core.Path.{◌≡◌, refl, ap, ◌∙◌}
use mathlib.Core.Logic.{◌⊎◌, inl, inr}
use mathlib.Core.Bool.{Bool, true, false, cond, not, ◌&&◌, ◌||◌, or-false}
use native.Mathlib.Omega.{arith}
use borrow.Author.Tests.{le-ltb}
use Rattle.wire.specs.message.Message.{Message, is_response}
use Rattle.own.specs.records.Records.{has_record}
use Rattle.claims.specs.records.Own.{claim_for, present, has}
use Rattle.claims.specs.declared.records.Claim.{Claim}
use Rattle.claims.specs.declared.records.Claim.TheVariants.{Instance, Host}
use Rattle.claims.specs.declared.records.Own.{Own}
use Rattle.claims.specs.answers.Answers as answers
use Rattle.claims.specs.answers.Answers.{asks_of, gap_of, gap_for, quarter_ttl, wanted_of, asked_by, multicast_asks, unicast_asks}
use Rattle.claims.specs.Time.{recently, sent_of}
use Rattle.claims.specs.Claims.{held_now, claim_of}
use Rattle.claims.specs.declared.answers.Facts.{Facts}
use Rattle.claims.proofs.records.Sets.{has-each}
use Rattle.facts.specs.probe.Probe.{is_probe}
use Rattle.facts.specs.Questions.{is_qm}
use Rattle.facts.specs.Facts.{facts_of, response_facts, query_facts, is_asked, is_asked_as, is_known, claim_name}
use Rattle.responder.specs.Causes.{is_due, has_cause, is_to_asker, is_wanted, is_unicast}
use Rattle.responder.specs.declared.State.{State}

module _ (s : State) (time : ℕ) (m : Message) where
  abbrev f : Facts
  f = facts_of s.setup m

  -- the rules of the claims, on the facts of the message
  abbrev pub facts_due : Own → Bool
  facts_due o = answers.is_due s.progress (asks_of f) s.setup.hasaaaa o

  module _ (query : is_response m.flags ≡ false) where
    asked_is : (o : Own) → has o (asks_of f).asked ≡ is_asked s.setup o m
    unfolding facts_of query_facts asks_of
    asked_is o = rw query (has-each (λ p. is_asked s.setup p m) o)

    known_is : (o : Own) → has o f.known ≡ is_known s.setup o m
    unfolding facts_of query_facts
    known_is o = rw query (has-each (λ p. is_known s.setup p m) o)

    to_asker_is : (o : Own) → answers.is_to_asker s.progress f time o ≡ is_to_asker s time m o
    unfolding facts_of query_facts is_to_asker
    to_asker_is o =
        let qm-is : has o f.qm ≡ is_asked_as is_qm s.setup o m = rw query (has-each (λ p. is_asked_as is_qm s.setup p m) o) in
        ap (λ (b : Bool). not b && recently (sent_of o s.progress.sent) time (quarter_ttl o)) qm-is

    gap_is : (k : Claim) → gap_for k (multicast_asks s.progress f time) ≡ gap_of (is_probe (claim_name s.setup k) m)
    unfolding facts_of query_facts multicast_asks
    gap_is Instance = simp query
    gap_is Host = simp query

    pub due-is : (o : Own) → facts_due o ≡ is_due s m o
    unfolding is_due has_record
    due-is o = simp (asked_is o, query)

    omit_is : (o : Own) → answers.is_omitted s.progress (multicast_asks s.progress f time) time o ≡ has_cause s time m o
    unfolding has_cause multicast_asks
    omit_is o = simp (known_is o, gap_is (claim_for o))

    no_gap : (w : Option ℕ) → recently w time 0 ≡ false
    no_gap None = refl
    no_gap (Some t) = le-ltb (time - t) 0 (omega arith)

    asker_omits : (o : Own) → answers.is_omitted s.progress (unicast_asks s.progress f time) time o ≡ is_known s.setup o m
    unfolding unicast_asks
    asker_omits o = go (claim_for o)
      where
        go : (k : Claim)
            → (has o f.known || recently (sent_of o s.progress.sent) time (gap_for k (unicast_asks s.progress f time))) ≡ is_known s.setup o m
        go Instance = rw (no_gap (sent_of o s.progress.sent)) (or-false (has o f.known) ∙ known_is o)
        go Host = rw (no_gap (sent_of o s.progress.sent)) (or-false (has o f.known) ∙ known_is o)

  -- nothing is due for a response
  module _ (response : is_response m.flags ≡ true) where
    none-asked : (o : Own) → has o (asks_of f).asked ≡ false
    unfolding facts_of response_facts asks_of
    none-asked o = rw response (has-each (λ p. false) o)

    none-due : (o : Own) → is_due s m o ≡ false
    unfolding is_due
    none-due o = simp response

  -- what is asked by multicast and by unicast, of what is asked for
  split : (unicast : Bool) (o : Own)
      → has o (asked_by unicast s.progress f time)
      ≡ (has o (asks_of f).asked && cond unicast (answers.is_to_asker s.progress f time o) (not (answers.is_to_asker s.progress f time o)))
  unfolding asked_by
  split unicast o =
      has-each
      (λ p. has p (asks_of f).asked && cond unicast (answers.is_to_asker s.progress f time p) (not (answers.is_to_asker s.progress f time p))) o

  regroup : (held there asked way omit : Bool) → ((held && (there && (asked && way))) && not omit) ≡ ((held && (there && asked)) && (way && not omit))
  regroup true true true way omit = refl
  regroup true true false way omit = refl
  regroup true false asked way omit = refl
  regroup false there asked way omit = refl

  -- A record goes out by multicast, or is set for a reply, exactly where it is due, is not for the asker alone and no cause of the specification holds.
  pub wanted_exactly : (o : Own) → has o (wanted_of s.progress (multicast_asks s.progress f time) time s.setup.hasaaaa) ≡ is_wanted s time m o
  unfolding wanted_of multicast_asks
  wanted_exactly o =
      has-each (answers.is_wanted s.progress (multicast_asks s.progress f time) time s.setup.hasaaaa) o
      ∙ rw (split false o)
      (regroup (held_now (claim_of (claim_for o) s.progress)) (present o s.setup.hasaaaa) (has o (asks_of f).asked) (not (answers.is_to_asker s.progress f time o))
      (answers.is_omitted s.progress (multicast_asks s.progress f time) time o)
      ∙ go (is_response m.flags) refl)
    where
      go : (b : Bool) → is_response m.flags ≡ b
          → (facts_due o && (not (answers.is_to_asker s.progress f time o) && not (answers.is_omitted s.progress (multicast_asks s.progress f time) time o)))
          ≡ is_wanted s time m o
      go true e = rw (none-asked e o, none-due e o) (no_due (held_now (claim_of (claim_for o) s.progress)) (present o s.setup.hasaaaa)
          (not (answers.is_to_asker s.progress f time o) && not (answers.is_omitted s.progress (multicast_asks s.progress f time) time o)))
        where
          no_due : (held there x : Bool) → ((held && (there && false)) && x) ≡ false
          no_due true true x = refl
          no_due true false x = refl
          no_due false there x = refl
      go false e = simp (due-is e o, to_asker_is e o, omit_is e o)

  -- A record goes out by unicast exactly where it is due, is for the asker alone and is not known.
  pub unicast-exactly : (o : Own) → has o (wanted_of s.progress (unicast_asks s.progress f time) time s.setup.hasaaaa) ≡ is_unicast s time m o
  unfolding wanted_of unicast_asks
  unicast-exactly o =
      has-each (answers.is_wanted s.progress (unicast_asks s.progress f time) time s.setup.hasaaaa) o
      ∙ rw (split true o)
      (regroup (held_now (claim_of (claim_for o) s.progress)) (present o s.setup.hasaaaa) (has o (asks_of f).asked) (answers.is_to_asker s.progress f time o)
      (answers.is_omitted s.progress (unicast_asks s.progress f time) time o)
      ∙ go (is_response m.flags) refl)
    where
      go : (b : Bool) → is_response m.flags ≡ b
          → (facts_due o && (answers.is_to_asker s.progress f time o && not (answers.is_omitted s.progress (unicast_asks s.progress f time) time o)))
          ≡ is_unicast s time m o
      go true e = rw (none-asked e o, none-due e o) (no_due (held_now (claim_of (claim_for o) s.progress)) (present o s.setup.hasaaaa)
          (answers.is_to_asker s.progress f time o && not (answers.is_omitted s.progress (unicast_asks s.progress f time) time o)))
        where
          no_due : (held there x : Bool) → ((held && (there && false)) && x) ≡ false
          no_due true true x = refl
          no_due true false x = refl
          no_due false there x = refl
      go false e = simp (due-is e o, to_asker_is e o, asker_omits e o)

  -- A record that is due goes to all or to the asker, or is left out for a cause, and never two of these.
  pub one_way_lem : (o : Own) → is_due s m o ≡ true
      → ((is_wanted s time m o ≡ true) × (is_unicast s time m o ≡ false))
      ⊎ ((is_wanted s time m o ≡ false) × (is_unicast s time m o ≡ true))
      ⊎ ((is_wanted s time m o ≡ false) × (is_unicast s time m o ≡ false) × (has_cause s time m o ≡ true))
  unfolding has_cause
  one_way_lem o d = go (is_due s m o) (is_to_asker s time m o) (is_known s.setup o m) (recently (sent_of o s.progress.sent) time (gap_of (is_probe (claim_name s.setup (claim_for o)) m))) d
    where
      go : (due asker known recent : Bool) → due ≡ true
          → (((due && (not asker && not (known || recent))) ≡ true) × ((due && (asker && not known)) ≡ false))
          ⊎ (((due && (not asker && not (known || recent))) ≡ false) × ((due && (asker && not known)) ≡ true))
          ⊎ (((due && (not asker && not (known || recent))) ≡ false) × ((due && (asker && not known)) ≡ false) × ((known || recent) ≡ true))
      go true true true recent e = inr (inr (refl, refl, refl))
      go true true false recent e = inr (inl (refl, refl))
      go true false true recent e = inr (inr (refl, refl, refl))
      go true false false true e = inr (inr (refl, refl, refl))
      go true false false false e = inl (refl, refl)
      go false asker known recent e = let z : ◌≡◌ {A = ℕ} 0 1 = cc in absurd (omega arith)
