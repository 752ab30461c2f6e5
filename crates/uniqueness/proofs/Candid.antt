-- Our responder is candid: a response that conflicts with a claim is made of its sender's own records, and a probe has the own list; and the order of own
-- lists is strict. So contention ends. Assumes nothing.
use mathlib.Core.Path.{◌≡◌, refl, sym, ap, subst, ◌∙◌}
use mathlib.Core.Logic.{◌⊎◌, inl, inr}
use mathlib.Core.Bool.{Bool, true, false, cond, not, ◌&&◌}
use mathlib.Core.Option.{none, some}
use mathlib.Core.List.{List, [], ◌++◌, map}
use Prim.Native.Nat.{ℕ}
use native.Mathlib.Omega.{arith}
use lib.Dec.{eqb}
use borrow.Author.Tests.{eqb-true}
use Rattle.wire.specs.case_folding.Fold.{same_name}
use Rattle.wire.proofs.case_folding.Equal as names
use Rattle.wire.specs.expansion.Equal.{same_bytes}
use Rattle.wire.proofs.expansion.Bytes as bytes
use Rattle.wire.specs.Lists.{some as some_of}
use Rattle.wire.specs.message.Message.{Question, Record, Message, class_of, is_response, all_records}
use Rattle.own.specs.declared.records.Setup.{Setup}
use Rattle.own.specs.records.Setups.{valid_setup}
use Rattle.own.specs.records.Records.{has_record, own_name, own_labels, own_rdata}
use Rattle.own.proofs.records.Valid.{valid, instance-not_host, host-not_instance}
use Rattle.claims.specs.records.Own.{all, own_type, has, claimed}
use Rattle.claims.specs.declared.records.Claim as own
use Rattle.claims.specs.declared.records.Claim.TheVariants.{Instance, Host}
use Rattle.claims.specs.declared.records.Own.{Own}
use Rattle.claims.specs.declared.records.Own.TheVariants.{Ptr, Srv, Txt, A, Aaaa, InstanceNsec, HostNsec}
use Rattle.claims.specs.declared.records.Set.{Set}
use Rattle.std.specs.declared.cmp.Ordering.{Ordering}
use Rattle.std.specs.declared.cmp.Ordering.TheVariants.{Less, Equal, Greater}
use Rattle.facts.specs.tiebreak.Later.{TieRecord, is_later, tie}
use Rattle.facts.proofs.tiebreak.Orders.{opposite}
use Rattle.facts.proofs.tiebreak.Ties.{tie-swap, one-wins, sorted_same, tie-trans}
use Rattle.facts.specs.probe.Probe.{under, asks_all, is_probe}
use Rattle.facts.specs.Facts.{conflicts as differs, conflicted, in_conflict, claim_name, ours, theirs_later}
use Rattle.writer.specs.Writer.{question_of}
use Rattle.writer.specs.declared.own_packets.Style.{Style}
use Rattle.writer.specs.own_packets.Styles.{own_record}
use Rattle.writer.specs.own_packets.Own.{response_records, probe_of}
use Rattle.link.specs.Responder.{Claim, instance, host}
use Rattle.link.specs.Premises.{Among}
use Rattle.link.specs.Laws as law
use Rattle.link.specs.Candid.{Contradicts, Probed, Candid}
use Rattle.uniqueness.specs.Responder.{own_claim, of_type, claim_record, data_of, rdata, name, is_data, data_under, responds, conflicts, defeats, responder}
use Rattle.uniqueness.specs.Rules.{rules}
use Rattle.uniqueness.specs.Tiebreak.{later, tiebreak}
use Rattle.uniqueness.proofs.Lists.{never, and_left, and_right, and_both, some_in, some_out, out_append, out_map, out_picked}
use Rattle.uniqueness.proofs.Owned.{Owned, srv, txt, a, aaaa, own_owner, own_data}
use Rattle.uniqueness.proofs.Messages.{only_one}
use Rattle.uniqueness.proofs.Facts.{query-flag}
use Rattle.uniqueness.proofs.Data.{later-by}
use Rattle.uniqueness.proofs.Lawful.{lawful}
use Rattle.link.proofs.Contention as link
use Rattle.link.proofs.Last as last
use Rattle.uniqueness.specs.Statement.{ContentionTheorem, OneIsLeftTheorem, LastTheorem}
use Rattle.uniqueness.proofs.Outgoing.{Outgoing, asks, tells, outgoing}

-- ---- a response that conflicts

-- a record of a claim, by its type
member_owned : (k : Claim) (o : Own) → Among o (claimed (own_claim k)) → Owned k (own_type o) o
member_owned instance o (inl e) = subst (λ (r : Own). Owned instance (own_type r) r) (sym e) (txt refl)
member_owned instance o (inr (inl e)) = subst (λ (r : Own). Owned instance (own_type r) r) (sym e) (srv refl)
member_owned instance o (inr (inr h)) = absurd h
member_owned host o (inl e) = subst (λ (r : Own). Owned host (own_type r) r) (sym e) (a refl)
member_owned host o (inr (inl e)) = subst (λ (r : Own). Owned host (own_type r) r) (sym e) (aaaa refl)
member_owned host o (inr (inr h)) = absurd h

owned-record : (k : Claim) (type : ℕ) (o : Own) → Owned k type o → claim_record k (own_type o) ≡ some o
unfolding claim_record of_type
owned-record k type o (srv e) = refl
owned-record k type o (txt e) = refl
owned-record k type o (a e) = refl
owned-record k type o (aaaa e) = refl

-- an own record of that type is that record
by-type : (k : Claim) (type : ℕ) (o : Own) → Owned k type o → (p : Own) → own_type p ≡ own_type o → p ≡ o
by-type k type o (srv f) Ptr e = absurd (omega arith)
by-type k type o (srv f) Srv e = refl
by-type k type o (srv f) Txt e = absurd (omega arith)
by-type k type o (srv f) A e = absurd (omega arith)
by-type k type o (srv f) Aaaa e = absurd (omega arith)
by-type k type o (srv f) InstanceNsec e = absurd (omega arith)
by-type k type o (srv f) HostNsec e = absurd (omega arith)
by-type k type o (txt f) Ptr e = absurd (omega arith)
by-type k type o (txt f) Srv e = absurd (omega arith)
by-type k type o (txt f) Txt e = refl
by-type k type o (txt f) A e = absurd (omega arith)
by-type k type o (txt f) Aaaa e = absurd (omega arith)
by-type k type o (txt f) InstanceNsec e = absurd (omega arith)
by-type k type o (txt f) HostNsec e = absurd (omega arith)
by-type k type o (a f) Ptr e = absurd (omega arith)
by-type k type o (a f) Srv e = absurd (omega arith)
by-type k type o (a f) Txt e = absurd (omega arith)
by-type k type o (a f) A e = refl
by-type k type o (a f) Aaaa e = absurd (omega arith)
by-type k type o (a f) InstanceNsec e = absurd (omega arith)
by-type k type o (a f) HostNsec e = absurd (omega arith)
by-type k type o (aaaa f) Ptr e = absurd (omega arith)
by-type k type o (aaaa f) Srv e = absurd (omega arith)
by-type k type o (aaaa f) Txt e = absurd (omega arith)
by-type k type o (aaaa f) A e = absurd (omega arith)
by-type k type o (aaaa f) Aaaa e = refl
by-type k type o (aaaa f) InstanceNsec e = absurd (omega arith)
by-type k type o (aaaa f) HostNsec e = absurd (omega arith)

-- what a record that differs from an own one says, part by part
record Apart (s t : Setup) (p o : Own) : Type 0 where
  named : same_name (own_name s p) (own_name t o) ≡ true
  typed : own_type p ≡ own_type o
  other : not (same_bytes (own_rdata s p) (own_rdata t o)) ≡ true

told-apart : (s t : Setup) (style : Style) (p o : Own) → differs (own_name t o) (own_type o) (own_rdata t o) (own_record s style p) ≡ true → Apart s t p o
unfolding own_record
told-apart s t style p o h =
    let r : Record = own_record s style p in
    let data-part : Bool = not (eqb r.ttl 0) && not (same_bytes (own_rdata s p) (own_rdata t o)) in
    let type-part : Bool = eqb (own_type p) (own_type o) && data-part in
    let class-part : Bool = eqb (class_of r.class) 1 && type-part in
    let c = and_right (same_name (own_name s p) (own_name t o)) class-part h in
    let y = and_right (eqb (class_of r.class) 1) type-part c in
    let d = and_right (eqb (own_type p) (own_type o)) data-part y in
    record {
      named = and_left (same_name (own_name s p) (own_name t o)) class-part h;
      typed = eqb-true (own_type p) (own_type o) (and_left (eqb (own_type p) (own_type o)) data-part y);
      other = and_right (not (eqb r.ttl 0)) (not (same_bytes (own_rdata s p) (own_rdata t o))) d;
    }

-- the own data of a type
has-rdata : (s : Setup) (k : Claim) (type : ℕ) (o : Own) → Owned k type o → has_record s o ≡ true → rdata s k (own_type o) ≡ some (own_rdata s o)
has-rdata s k type o w h = ap (data_of s) (owned-record k type o w) ∙ ap (λ (b : Bool). cond b (some (own_rdata s o)) none) h

not_same : (c d : List ℕ) → not (same_bytes c d) ≡ true → c ≡ d → ⊥
not_same c d n e = never (sym (ap not (ap (λ (b : List ℕ). same_bytes b d) e ∙ bytes.same_refl d)) ∙ n)

module _ (s t : Setup) (k : Claim) (m : Message) where
  -- an own record of the claim's type stands in the response, with other data
  conflicting :
      (style : Style) (o : Own) → Owned k (own_type o) o → has_record s o ≡ true → has_record t o ≡ true → Apart s t o o → is_response m.flags ≡ true
      → Among (own_record s style o) (all_records m) → Contradicts responder rules tiebreak s t k m
  unfolding responds own_record
  conflicting style o w mine yours p f h =
      record {
        same =
            subst (λ (c : List ℕ). same_name c (name t k) ≡ true) (own_owner s k (own_type o) o w)
            (subst (λ (c : List ℕ). same_name (own_name s o) c ≡ true) (own_owner t k (own_type o) o w) p.named);
        differ =
            record {
              type = own_type o;
              one_data = own_rdata s o;
              other_data = own_rdata t o;
              one_carries = has-rdata s k (own_type o) o w mine;
              other_carries = has-rdata t k (own_type o) o w yours;
              different = not_same (own_rdata s o) (own_rdata t o) p.other;
            };
        under =
            and_both (is_response m.flags) (some_of (data_under (name s k)) (all_records m)) f
            (some_in (data_under (name s k)) (own_record s style o) (all_records m) h
            (and_both (same_name (own_name s o) (name s k)) (is_data (own_type o)) (rw (own_owner s k (own_type o) o w) (names.same_refl (name s k)))
            (own_data k (own_type o) o w)));
      }

  contradicts :
      (style : Style) (set : Set) → is_response m.flags ≡ true → all_records m ≡ map (own_record s style) (response_records s set) ++ []
      → in_conflict t (own_claim k) m ≡ true → Contradicts responder rules tiebreak s t k m
  unfolding conflicted response_records
  contradicts style set f e h =
      let own_one = some_out (λ (o : Own). conflicted t o m) (claimed (own_claim k)) h in
      let o : Own = own_one.0 in
      let w : Owned k (own_type own_one.0) own_one.0 = member_owned k own_one.0 own_one.1 in
      let test = differs (own_name t own_one.0) (own_type own_one.0) (own_rdata t own_one.0) in
      let found = some_out test (all_records m) (and_right (has_record t own_one.0) (some_of test (all_records m)) own_one.2) in
      let made =
      out_map (own_record s style) found.0 (response_records s set) (in_front_lem found.0 (subst (λ (rs : List Record). Among found.0 rs) e found.1))
      in
      let taken = out_picked (λ (q : Own). has q set && has_record s q) made.0 all made.1 in
      let p : Apart s t made.0 own_one.0 =
      told-apart s t style made.0 own_one.0 (subst (λ (r : Record). test r ≡ true) made.2 found.2)
      in
      let same : made.0 ≡ own_one.0 = by-type k (own_type own_one.0) own_one.0 w made.0 p.typed in
      conflicting style own_one.0 w
      (subst (λ (q : Own). has_record s q ≡ true) same (and_right (has made.0 set) (has_record s made.0) taken.1))
      (and_left (has_record t own_one.0) (some_of test (all_records m)) own_one.2) (subst (λ (q : Own). Apart s t q own_one.0) same p) f
      (subst (λ (r : Record). Among r (all_records m)) (made.2 ∙ ap (own_record s style) same) found.1)
    where
      in_front_lem : (r : Record) → Among r (map (own_record s style) (response_records s set) ++ []) → Among r (map (own_record s style) (response_records s set))
      in_front_lem r i = go (out_append r (map (own_record s style) (response_records s set)) [] i)
        where
          go : Among r (map (own_record s style) (response_records s set)) ⊎ Among r [] → Among r (map (own_record s style) (response_records s set))
          go (inl j) = j
          go (inr j) = absurd j

  candid_of : Outgoing s m → conflicts m t k ≡ true → Contradicts responder rules tiebreak s t k m
  unfolding conflicts
  candid_of (asks j e) h =
      never
      (sym (ap (λ (n : Message). is_response n.flags) e ∙ query-flag s j) ∙ and_left (is_response m.flags) (in_conflict t (own_claim k) m) h)
  candid_of (tells style set f e) h = contradicts style set f e (and_right (is_response m.flags) (in_conflict t (own_claim k) m) h)

  -- ---- a probe

  module _ (mine : valid_setup s ≡ true) (yours : valid_setup t ≡ true) where
    -- names of the two claims are never equal
    one-claim : (j : own.Claim) → same_name (claim_name s j) (name t k) ≡ true → j ≡ own_claim k
    unfolding own_name own_labels
    one-claim j e = go j k e
      where
        go : (i : own.Claim) (l : Claim) → same_name (claim_name s i) (name t l) ≡ true → i ≡ own_claim l
        go Instance instance f = refl
        go Host host f = refl
        go Instance host f = absurd (instance-not_host s t (valid s mine) (valid t yours) f)
        go Host instance f = absurd (host-not_instance s t (valid s mine) (valid t yours) f)

    probed_of : Outgoing s m → is_probe (name t k) m ≡ true → Probed responder rules tiebreak s t k m
    unfolding is_probe defeats later probe_of
    probed_of (tells style set f e) h = never (sym (ap not f) ∙ and_left (not (is_response m.flags)) _ h)
    probed_of (asks j e) h =
        let rest : Bool = some_of (under (name t k)) m.authorities in
        let parts = and_right (not (is_response m.flags)) (some_of (asks_all (name t k)) m.questions && rest) h in
        let q = some_out (asks_all (name t k)) m.questions (and_left (some_of (asks_all (name t k)) m.questions) rest parts) in
        let is : q.0 ≡ question_of (claim_name s j) 255 0x8001 =
        only_one q.0 (question_of (claim_name s j) 255 0x8001) (subst (λ (n : Message). Among q.0 n.questions) e q.1)
        in
        let named : same_name (claim_name s j) (name t k) ≡ true =
        subst (λ (b : Question). same_name b.name (name t k) ≡ true) is (and_left (same_name q.0.name (name t k)) _ q.2)
        in
        let i : j ≡ own_claim k = one-claim j named in
        let same : same_name (name s k) (name t k) ≡ true = subst (λ (c : own.Claim). same_name (claim_name s c) (name t k) ≡ true) i named in
        record {
          same = same;
          later = λ d.
              sym (later-by s t k same) ∙ ap (theirs_later t (own_claim k)) (sym (e ∙ ap (probe_of s) i))
              ∙ and_right (is_probe (name t k) m) (theirs_later t (own_claim k) m) d;
        }

-- ---- the order of own lists

is_later_lem : (v : Ordering) → is_later v ≡ true → v ≡ Greater
is_later_lem Less e = never e
is_later_lem Equal e = never e
is_later_lem Greater e = refl

later-self : (s : Setup) (k : Claim) → later s s k ≡ false
unfolding later
later-self s k = ap is_later (sorted_same (ours s (own_claim k)) (ours s (own_claim k)) refl)

later_trans_lem : (s t u : Setup) (k : Claim) → later s t k ≡ true → later t u k ≡ true → later s u k ≡ true
unfolding later
later_trans_lem s t u k p q =
    ap is_later
    (one-wins (list u) (list s)
    (tie-trans (list u) (list t) (list s) (turned (list t) (list u) (is_later_lem (tie (list t) (list u)) q))
    (turned (list s) (list t) (is_later_lem (tie (list s) (list t)) p))))
  where
    list : Setup → List TieRecord
    list r = ours r (own_claim k)

    turned : (b c : List TieRecord) → tie b c ≡ Greater → tie c b ≡ Less
    turned b c e = tie-swap b c ∙ ap opposite e

-- ---- the laws

pub candid : Candid responder rules tiebreak
unfolding defeats
candid =
    record {
      name_trans = names.same_trans;
      later_self = later-self;
      later_trans = later_trans_lem;
      is_probe = λ m s k h. and_left (is_probe (name s k) m) (theirs_later s (own_claim k) m) h;
      candid = λ s x c q t k r h e.
          candid_of (law.data_after responder c s) t k q.message
          (subst (λ (u : Setup). Outgoing (law.data_after responder c u) q.message) r.of.setup (outgoing x c q h)) e;
      probed = λ s x c q t k r v h e.
          probed_of (law.data_after responder c s) t k q.message
          (lawful.valid (law.next responder rules x c) (law.data_after responder c s) (lawful.kept s x c r)) v
          (subst (λ (u : Setup). Outgoing (law.data_after responder c u) q.message) r.of.setup (outgoing x c q h)) e;
    }

-- ---- the theorems

pub contention_ends : ContentionTheorem
contention_ends = link.contention_ends responder rules lawful tiebreak candid

-- "each name has exactly one holder from 1,200 ms after the last one's start on"
pub one-is_left : OneIsLeftTheorem
one-is_left = link.one-is_left responder rules lawful tiebreak candid

pub last-exists : LastTheorem
last-exists = last.last-exists responder rules tiebreak candid
