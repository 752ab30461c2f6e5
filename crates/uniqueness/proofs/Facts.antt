-- Small facts about stages, own records and messages, for the laws of a call. Assumes nothing.
use mathlib.Core.Path.{◌≡◌, refl, sym, ap, ◌∙◌}
use mathlib.Core.Bool.{Bool, true, false, cond, ◌||◌}
use mathlib.Core.List.{List, [], ◌∷◌}
use Prim.Native.Nat.{ℕ}
use Rattle.wire.specs.message.Message.{Message, is_response}
use Rattle.own.specs.declared.records.Setup.{Setup}
use Rattle.own.specs.records.Records.{has_record}
use Rattle.claims.specs.Time.{after_ms}
use Rattle.claims.specs.Claims.{held_now}
use Rattle.claims.specs.records.Own.{has}
use Rattle.claims.specs.records.Sets.{some_of, records_of, under}
use Rattle.claims.specs.declared.records.Claim as own
use Rattle.claims.specs.declared.records.Own.{Own}
use Rattle.claims.specs.declared.records.Own.TheVariants.{Srv, Txt, A, Aaaa}
use Rattle.claims.specs.declared.ClaimState.{ClaimState}
use Rattle.claims.specs.declared.ClaimState.TheVariants.{Waiting, Probing1, Probing2, Probing3, Deferred, Announced, Held, Lost}
use Rattle.claims.specs.declared.records.Set.{Set}
use Rattle.claims.specs.steps.Steps.{taken_action}
use Rattle.claims.specs.declared.steps.Action.TheVariants as action
use Rattle.facts.specs.Facts.{in_conflict, response_facts, query_facts, facts_of}
use Rattle.writer.specs.own_packets.Own.{probe_of}
use Rattle.link.specs.Responder.{Claim, instance, host}
use Rattle.link.specs.Premises.{Among}
use Rattle.link.specs.Laws as law
use Rattle.uniqueness.specs.Responder.{own_claim, conflicts}
use Rattle.uniqueness.specs.Rules.{unless_empty, stage_of}
use Rattle.uniqueness.proofs.Lists.{clash, never, and_left}
use Rattle.uniqueness.proofs.Owned.{Owned, srv, txt, a, aaaa, is-present}
use Rattle.uniqueness.proofs.Messages.{only_one}

pub stage_held : (c : ClaimState) → held_now c ≡ true → stage_of c ≡ law.held
stage_held (Waiting u) h = never h
stage_held (Probing1 u) h = never h
stage_held (Probing2 u) h = never h
stage_held (Probing3 u) h = never h
stage_held (Deferred u) h = never h
stage_held (Announced u) h = refl
stage_held Held h = refl
stage_held Lost h = never h

pub held_stage : (c : ClaimState) → stage_of c ≡ law.held → held_now c ≡ true
held_stage (Waiting u) h = clash (cc)
held_stage (Probing1 u) h = clash (cc)
held_stage (Probing2 u) h = clash (cc)
held_stage (Probing3 u) h = clash (cc)
held_stage (Deferred u) h = clash (cc)
held_stage (Announced u) h = refl
held_stage Held h = refl
held_stage Lost h = clash (cc)

-- a claim that announces or repeats is held then
pub announce_held : (c d : ClaimState) (now : ℕ) → taken_action c now ≡ action.Announce d → stage_of d ≡ law.held
announce_held (Waiting u) d now e = clash (cc)
announce_held (Probing1 u) d now e = clash (cc)
announce_held (Probing2 u) d now e = clash (cc)
announce_held (Probing3 u) d now e = let z : Announced (after_ms now 1000) ≡ d = cc in sym (ap stage_of z)
announce_held (Deferred u) d now e = clash (cc)
announce_held (Announced u) d now e = clash (cc)
announce_held Held d now e = clash (cc)
announce_held Lost d now e = clash (cc)

pub repeat_held : (c d : ClaimState) (now : ℕ) → taken_action c now ≡ action.Repeat d → (stage_of c ≡ law.held) × (stage_of d ≡ law.held)
repeat_held (Waiting u) d now e = clash (cc)
repeat_held (Probing1 u) d now e = clash (cc)
repeat_held (Probing2 u) d now e = clash (cc)
repeat_held (Probing3 u) d now e = clash (cc)
repeat_held (Deferred u) d now e = clash (cc)
repeat_held (Announced u) d now e = let z : Held ≡ d = cc in (refl, sym (ap stage_of z))
repeat_held Held d now e = clash (cc)
repeat_held Lost d now e = clash (cc)

-- a response under a claim's name has a record of the claim
pub record OneOf (k : Claim) (set : Set) : Type 0 where
  pub type : ℕ
  pub own : Own
  pub is : Owned k type own
  pub there : has own set ≡ true

pub one_of : (k : Claim) (set : Set) → under (own_claim k) set ≡ true → OneOf k set
unfolding some_of
one_of instance set h = go set.txt set.srv refl refl h
  where
    go : (b c : Bool) → set.txt ≡ b → set.srv ≡ c → (b || (c || false)) ≡ true → OneOf instance set
    go true c e f h = record { type = 16; own = Txt; is = txt refl; there = e }
    go false true e f h = record { type = 33; own = Srv; is = srv refl; there = f }
    go false false e f h = never h
one_of host set h = go set.a set.aaaa refl refl h
  where
    go : (b c : Bool) → set.a ≡ b → set.aaaa ≡ c → (b || (c || false)) ≡ true → OneOf host set
    go true c e f h = record { type = 1; own = A; is = a refl; there = e }
    go false true e f h = record { type = 28; own = Aaaa; is = aaaa refl; there = f }
    go false false e f h = never h

-- the first announcement has all records that there are
pub all-announced : (s : Setup) (k : Claim) (type : ℕ) (r : Own) → Owned k type r → has_record s r ≡ true → has r (records_of (own_claim k) s.hasaaaa) ≡ true
unfolding records_of
all-announced s k type r (srv e) h = refl
all-announced s k type r (txt e) h = refl
all-announced s k type r (a e) h = refl
all-announced s k type r (aaaa e) h = sym (is-present s Aaaa) ∙ h

-- every claim has a record
pub first_of : (s : Setup) (k : Claim) → (type : ℕ) × (r : Own) × Owned k type r × (has_record s r ≡ true)
unfolding has_record
first_of s instance = (33, Srv, srv refl, refl)
first_of s host = (1, A, a refl, refl)

pub facts_response : (s : Setup) (m : Message) → (facts_of s m).response ≡ is_response m.flags
unfolding facts_of response_facts query_facts
facts_response s m = go (is_response m.flags)
  where
    go : (b : Bool) → (cond b (response_facts s m) (query_facts s m)).response ≡ b
    go true = refl
    go false = refl

pub is-response : (s : Setup) (m : Message) (k : Claim) → conflicts m s k ≡ true → is_response m.flags ≡ true
unfolding conflicts
is-response s m k c = and_left (is_response m.flags) (in_conflict s (own_claim k) m) c

pub query-flag : (s : Setup) (j : own.Claim) → is_response (probe_of s j).flags ≡ false
unfolding probe_of
query-flag s j = refl

pub unless_out : (os : List Own) (m n : Message) → Among n (unless_empty os m) → n ≡ m
unless_out [] m n h = absurd h
unless_out (o ∷ os) m n h = only_one n m h
