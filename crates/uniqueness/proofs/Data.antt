-- The laws about data: of two probes with different records one is later, and a response with a different record conflicts. Assumes nothing.
use mathlib.Core.Path.{◌≡◌, refl, sym, ap, subst, ◌∙◌}
use mathlib.Core.Logic.{◌≢◌, ◌⊎◌, inl, inr}
use mathlib.Core.Bool.{Bool, true, false, cond, not}
use mathlib.Core.Option.{Option, some}
use mathlib.Core.List.{List, [], ◌∷◌, ◌++◌, map}
use Prim.Native.Nat.{ℕ}
use native.Mathlib.Omega.{arith}
use lib.Dec.{eqb}
use borrow.Author.Tests.{eq-eqb}
use Rattle.wire.specs.case_folding.Fold.{same_name}
use Rattle.wire.proofs.case_folding.Equal.{same_refl, same_sym}
use Rattle.wire.specs.expansion.Equal.{same_bytes}
use Rattle.wire.proofs.expansion.Bytes.{same_equal}
use Rattle.wire.specs.message.Message.{Record, Message, class_of, is_response, all_records}
use Rattle.own.specs.declared.records.Setup.{Setup}
use Rattle.own.specs.records.Records.{has_record, own_labels, own_name, own_rdata}
use Rattle.claims.specs.records.Own.{own_type, first_of, second_of, claimed}
use Rattle.claims.specs.records.Sets.{picked}
use Rattle.claims.specs.declared.records.Claim as own
use Rattle.claims.specs.declared.records.Claim.TheVariants.{Instance, Host}
use Rattle.claims.specs.declared.records.Own.{Own}
use Rattle.claims.specs.declared.records.Own.TheVariants.{Srv, Txt, A, Aaaa}
use Rattle.std.specs.declared.cmp.Ordering.{Ordering}
use Rattle.std.specs.declared.cmp.Ordering.TheVariants.{Less, Equal, Greater}
use Rattle.facts.specs.tiebreak.Later.{TieRecord, is_later, tie}
use Rattle.wire.specs.Lists.{some as some_of}
use Rattle.facts.specs.probe.Probe.{under, asks_all, is_probe}
use Rattle.facts.specs.tiebreak.Lists.{list_under, theirs, own_list}
use Rattle.facts.proofs.tiebreak.Ties.{one-wins, Rising, own_same, own_one, own_two, own_parts}
use Rattle.facts.proofs.tiebreak.Lists.{spelling_list}
use Rattle.facts.proofs.probe.Probes.{spelling_probe}
use Rattle.facts.specs.Facts.{conflicts as differs, conflicted, in_conflict, claim_name, ours, theirs_later}
use Rattle.writer.specs.own_packets.Styles.{response_style, probe_style, own_record}
use Rattle.writer.specs.own_packets.Own.{probe_records, probe_of}
use Rattle.link.specs.Responder.{Claim, instance, host}
use Rattle.link.specs.Premises.{Among}
use Rattle.uniqueness.specs.Responder.{own_claim, rdata, name, conflicts, defeats}
use Rattle.uniqueness.specs.Rules.{Carried}
use Rattle.uniqueness.proofs.Lists.{and_both, some_in, in_append}
use Rattle.uniqueness.proofs.Owned.{Owned, srv, txt, a, aaaa, owned, Has, has-data, own_owner, among_claimed}

-- ---- the probe of a claim, and its records

-- a claim's own list is by rising type
rising : (s : Setup) (k : Claim) → Rising (ours s (own_claim k))
unfolding has_record
rising s instance = own_two 16 (own_rdata s Txt) 33 (own_rdata s Srv) (omega arith)
rising s host = go s.hasaaaa
  where
    go : (b : Bool) → Rising (own_list 1 (own_rdata s A) b 28 (own_rdata s Aaaa))
    go true = own_two 1 (own_rdata s A) 28 (own_rdata s Aaaa) (omega arith)
    go false = own_one 1 (own_rdata s A) 28 (own_rdata s Aaaa)

-- the authority records of the claim's probe
abbrev authority : Setup → own.Claim → List Record
authority s c = own_record s probe_style (first_of c) ∷ cond (has_record s (second_of c)) (own_record s probe_style (second_of c) ∷ []) []

first-there : (s : Setup) (c : own.Claim) → has_record s (first_of c) ≡ true
unfolding has_record
first-there s Instance = refl
first-there s Host = refl

second_owner : (s : Setup) (c : own.Claim) → own_name s (second_of c) ≡ claim_name s c
unfolding own_name own_labels
second_owner s Instance = refl
second_owner s Host = refl

authorities : (s : Setup) (c : own.Claim) → (probe_of s c).authorities ≡ authority s c
unfolding probe_of probe_records picked
authorities s c = rw (first-there s c) (go (has_record s (second_of c)))
  where
    go : (b : Bool)
        → ◌≡◌ {A = List Record} (own_record s probe_style (first_of c) ∷ map (own_record s probe_style) (cond b (second_of c ∷ []) []))
        (own_record s probe_style (first_of c) ∷ cond b (own_record s probe_style (second_of c) ∷ []) [])
    go true = refl
    go false = refl

-- under the claim's name they are all
their_list : (s : Setup) (c : own.Claim) → list_under (claim_name s c) (authority s c) ≡ ours s c
unfolding own_record list_under
their_list s c = go (has_record s (second_of c))
  where
    go : (b : Bool)
        → list_under (claim_name s c) (own_record s probe_style (first_of c) ∷ cond b (own_record s probe_style (second_of c) ∷ []) [])
        ≡ own_list (own_type (first_of c)) (own_rdata s (first_of c)) b (own_type (second_of c)) (own_rdata s (second_of c))
    go true = rw (second_owner s c, same_refl (claim_name s c)) refl
    go false = rw (same_refl (claim_name s c)) refl

pub theirs-own : (s : Setup) (k : Claim) → theirs (name s k) (probe_of s (own_claim k)) ≡ ours s (own_claim k)
theirs-own s k = ap (list_under (name s k)) (authorities s (own_claim k)) ∙ their_list s (own_claim k)

-- ---- a probe

pub no_response : (s : Setup) (k : Claim) → is_response (probe_of s (own_claim k)).flags ≡ false
unfolding probe_of
no_response s k = refl

asks : (s : Setup) (k : Claim) → some_of (asks_all (name s k)) (probe_of s (own_claim k)).questions ≡ true
unfolding probe_of some_of
asks s k = rw (same_refl (name s k)) refl

under-it : (s : Setup) (k : Claim) → some_of (under (name s k)) (authority s (own_claim k)) ≡ true
unfolding own_record some_of
under-it s k = rw (same_refl (name s k)) refl

probes_self : (s : Setup) (k : Claim) → is_probe (name s k) (probe_of s (own_claim k)) ≡ true
unfolding is_probe
probes_self s k = rw (no_response s k, asks s k, authorities s (own_claim k), under-it s k) refl

module _ (s t : Setup) (k : Claim) (same : same_name (name s k) (name t k) ≡ true) where
  -- the probe of one is a probe for the name of the other
  pub is-probe : is_probe (name t k) (probe_of s (own_claim k)) ≡ true
  is-probe = sym (spelling_probe (name s k) (name t k) same (probe_of s (own_claim k))) ∙ probes_self s k

  pub later-by : theirs_later t (own_claim k) (probe_of s (own_claim k)) ≡ is_later (tie (ours s (own_claim k)) (ours t (own_claim k)))
  unfolding theirs_later
  later-by =
      ap (λ (l : List TieRecord). is_later (tie l (ours t (own_claim k))))
      (sym (spelling_list (name s k) (name t k) same (probe_of s (own_claim k)).authorities) ∙ theirs-own s k)

  wins : tie (ours s (own_claim k)) (ours t (own_claim k)) ≡ Greater → defeats (probe_of s (own_claim k)) t k ≡ true
  unfolding defeats
  wins e = and_both (is_probe (name t k) (probe_of s (own_claim k))) (theirs_later t (own_claim k) (probe_of s (own_claim k))) is-probe (later-by ∙ ap is_later e)

-- equal lists have equal data
equal_data : (s t : Setup) (k : Claim) (type : ℕ) (r : Own) → Owned k type r → has_record s r ≡ true → ours s (own_claim k) ≡ ours t (own_claim k)
    → own_rdata s r ≡ own_rdata t r
equal_data s t k type r (srv f) h e = ((own_parts 16 (own_rdata s Txt) (has_record s Srv) 33 (own_rdata s Srv) 16 (own_rdata t Txt) (has_record t Srv) 33 (own_rdata t Srv) e).3 h).1
equal_data s t k type r (txt f) h e = (own_parts 16 (own_rdata s Txt) (has_record s Srv) 33 (own_rdata s Srv) 16 (own_rdata t Txt) (has_record t Srv) 33 (own_rdata t Srv) e).1
equal_data s t k type r (a f) h e = (own_parts 1 (own_rdata s A) (has_record s Aaaa) 28 (own_rdata s Aaaa) 1 (own_rdata t A) (has_record t Aaaa) 28 (own_rdata t Aaaa) e).1
equal_data s t k type r (aaaa f) h e = ((own_parts 1 (own_rdata s A) (has_record s Aaaa) 28 (own_rdata s Aaaa) 1 (own_rdata t A) (has_record t Aaaa) 28 (own_rdata t Aaaa) e).3 h).1

-- one record for a claim and type
pub same_own : {o : Option Own} (p q : Own) → o ≡ some p → o ≡ some q → p ≡ q
same_own p q e f = cc

pub tie-law :
    (s t : Setup) (k : Claim) (type : ℕ) (d e : List ℕ)
    → same_name (name s k) (name t k) ≡ true
    → rdata s k type ≡ some d
    → rdata t k type ≡ some e
    → d ≢ e
    → (defeats (probe_of s (own_claim k)) t k ≡ true) ⊎ (defeats (probe_of t (own_claim k)) s k ≡ true)
tie-law s t k type d e same p q n = go (tie (ours s (own_claim k)) (ours t (own_claim k))) refl
  where
    mine : Has s k type d
    mine = has-data s k type d p

    theirs' : Has t k type e
    theirs' = has-data t k type e q

    one : mine.own ≡ theirs'.own
    one = same_own mine.own theirs'.own mine.is theirs'.is

    equal : ours s (own_claim k) ≡ ours t (own_claim k) → d ≡ e
    equal h =
        sym mine.is-data ∙ equal_data s t k type mine.own (owned k type mine.own mine.is) mine.there h
        ∙ ap (own_rdata t) one ∙ theirs'.is-data

    go : (v : Ordering) → tie (ours s (own_claim k)) (ours t (own_claim k)) ≡ v → (defeats (probe_of s (own_claim k)) t k ≡ true) ⊎ (defeats (probe_of t (own_claim k)) s k ≡ true)
    go Greater h = inl (wins s t k same h)
    go Less h = inr (wins t s k (same_sym (name s k) (name t k) same) (one-wins (ours s (own_claim k)) (ours t (own_claim k)) h))
    go Equal h = absurd (n (equal (own_same (rising s k) (rising t k) h)))

-- ---- a conflict

class_one : (s : Setup) (k : Claim) (type : ℕ) (r : Own) → Owned k type r → eqb (class_of (own_record s (response_style 0) r).class) 1 ≡ true
unfolding own_record
class_one s k type r (srv f) = refl
class_one s k type r (txt f) = refl
class_one s k type r (a f) = refl
class_one s k type r (aaaa f) = refl

ttl_some : (s : Setup) (k : Claim) (type : ℕ) (r : Own) → Owned k type r → not (eqb (own_record s (response_style 0) r).ttl 0) ≡ true
unfolding own_record
ttl_some s k type r (srv f) = refl
ttl_some s k type r (txt f) = refl
ttl_some s k type r (a f) = refl
ttl_some s k type r (aaaa f) = refl

other-bytes : (d e : List ℕ) → d ≢ e → not (same_bytes d e) ≡ true
other-bytes d e n = go (same_bytes d e) refl
  where
    go : (b : Bool) → same_bytes d e ≡ b → not b ≡ true
    go true h = absurd (n (same_equal d e h))
    go false h = refl

module _ (s t : Setup) (k : Claim) (type : ℕ) (r : Own) (o : Owned k type r) (same : same_name (name s k) (name t k) ≡ true) (n : own_rdata s r ≢ own_rdata t r) where
  named : same_name (own_record s (response_style 0) r).owner (own_name t r) ≡ true
  unfolding own_record
  named = rw (own_owner s k type r o, own_owner t k type r o) same

  typed : eqb (own_record s (response_style 0) r).rtype (own_type r) ≡ true
  unfolding own_record
  typed = eq-eqb (own_type r) (own_type r) refl

  other : not (same_bytes (own_record s (response_style 0) r).rdata (own_rdata t r)) ≡ true
  unfolding own_record
  other = other-bytes (own_rdata s r) (own_rdata t r) n

  differ : differs (own_name t r) (own_type r) (own_rdata t r) (own_record s (response_style 0) r) ≡ true
  differ = rw (named, class_one s k type r o, typed, ttl_some s k type r o, other) refl

  found : (m : Message) → has_record t r ≡ true → Among (own_record s (response_style 0) r) m.answers → conflicted t r m ≡ true
  unfolding conflicted
  found m h i =
      and_both (has_record t r) (some_of (differs (own_name t r) (own_type r) (own_rdata t r)) (all_records m)) h
      (some_in (differs (own_name t r) (own_type r) (own_rdata t r)) (own_record s (response_style 0) r) (all_records m)
      (in_append (own_record s (response_style 0) r) m.answers (m.authorities ++ m.additionals) i) differ)

by-claim : (t : Setup) (k : Claim) (type : ℕ) (r : Own) → Owned k type r → (m : Message) → conflicted t r m ≡ true → in_conflict t (own_claim k) m ≡ true
by-claim t k type r o m h = some_in (λ (p : Own). conflicted t p m) r (claimed (own_claim k)) (among_claimed k type r o) h

pub conflict_law :
    (m : Message) (s t : Setup) (k : Claim) (type : ℕ) (d e : List ℕ)
    → same_name (name s k) (name t k) ≡ true
    → rdata s k type ≡ some d
    → rdata t k type ≡ some e
    → d ≢ e
    → Carried m s k type
    → conflicts m t k ≡ true
unfolding conflicts
conflict_law m s t k type d e same p q n c =
    and_both (is_response m.flags) (in_conflict t (own_claim k) m) c.response
    (by-claim t k type c.own o m (found s t k type c.own o same differ m there c.member))
  where
    mine : Has s k type d
    mine = has-data s k type d p

    yours : Has t k type e
    yours = has-data t k type e q

    o : Owned k type c.own
    o = owned k type c.own c.owned

    first : mine.own ≡ c.own
    first = same_own mine.own c.own mine.is c.owned

    second : yours.own ≡ c.own
    second = same_own yours.own c.own yours.is c.owned

    there : has_record t c.own ≡ true
    there = subst (λ (r : Own). has_record t r ≡ true) second yours.there

    differ : own_rdata s c.own ≢ own_rdata t c.own
    differ h =
        n
        (sym mine.is-data ∙ ap (own_rdata s) first ∙ h ∙ ap (own_rdata t) (sym second) ∙ yours.is-data)
