-- What an update changes: one record of the instance claim, no name and no other record; and that a claim that is held announces it. Assumes nothing.
use mathlib.Core.Path.{◌≡◌, refl, sym, ap, ◌∙◌}
use mathlib.Core.Logic.{◌⊎◌, inl, inr}
use mathlib.Core.Bool.{Bool, true, false, cond}
use mathlib.Core.Option.{Option, none, some}
use mathlib.Core.List.{List}
use Prim.Native.Nat.{ℕ, ◌+◌, ◌≤◌}
use native.Mathlib.Omega.{arith}
use Rattle.wire.specs.message.Message.{Message}
use Rattle.own.specs.declared.records.Setup.{Setup}
use Rattle.own.specs.records.Setups.{valid_setup, host_labels}
use Rattle.own.specs.records.Records.{has_record, own_labels, own_name, own_rdata}
use Rattle.own.specs.changes.Changes.{NewData, new_port, new_txt, revised, change_of}
use Rattle.own.proofs.changes.Revised.{name-stays, record_stays, rdata-stays}
use Rattle.claims.specs.Time.{last_time, after_ms}
use Rattle.claims.specs.Claims.{held_now}
use Rattle.claims.specs.records.Own.{own_type, first_of, has}
use Rattle.claims.specs.records.Sets as sets
use Rattle.claims.specs.records.Sets.{only}
use Rattle.claims.specs.changes.Changes.{changed_record}
use Rattle.claims.specs.declared.changes.Change.{Change}
use Rattle.claims.specs.declared.changes.Change.TheVariants.{Port, Txt}
use Rattle.claims.specs.declared.records.Own.{Own}
use Rattle.claims.specs.declared.records.Set.{Set}
use Rattle.claims.specs.declared.records.Claim.TheVariants.{Host}
use Rattle.claims.specs.declared.steps.Output.TheVariants.{Response}
use Rattle.claims.proofs.Times.{after-exact}
use Rattle.claims.proofs.changes.Updates as laws
use Rattle.facts.specs.Facts.{theirs_later}
use Rattle.writer.specs.own_packets.Styles.{own_record}
use Rattle.writer.specs.own_packets.Own.{probe_records, probe_of}
use Rattle.responder.specs.changes.Changes.{Update}
use Rattle.responder.specs.declared.State.{State}
use Rattle.link.specs.Responder.{Claim, instance, host, everyone}
use Rattle.link.specs.Laws as law
use Rattle.uniqueness.specs.Responder.{own_claim, changes, revise, of_type, claim_record, data_of, rdata, name, defeats, responder}
use Rattle.uniqueness.specs.Rules.{stage_of, Fits, rules}
use Rattle.uniqueness.proofs.Owned.{Owned, srv, txt, a, aaaa, owned, Has, has-data}
use Rattle.uniqueness.proofs.Facts.{stage_held}
use Rattle.uniqueness.proofs.Sent.{told-all}

pub revise-name : (u : Update) (s : Setup) (k : Claim) → name (revise u s) k ≡ name s k
revise-name u s k = name-stays s u.new (first_of (own_claim k))

-- of another record than the changed one
other-record : (new : NewData) (k : Claim) (type : ℕ) (r : Own) → Owned k type r → (instance ≡ k → own_type (changed_record (change_of new)) ≡ type → ⊥)
    → has r (only (changed_record (change_of new))) ≡ false
unfolding only
other-record (new_port p) k type r (srv e) f = absurd (f refl (sym e))
other-record (new_port p) k type r (txt e) f = refl
other-record (new_port p) k type r (a e) f = refl
other-record (new_port p) k type r (aaaa e) f = refl
other-record (new_txt t) k type r (srv e) f = refl
other-record (new_txt t) k type r (txt e) f = absurd (f refl (sym e))
other-record (new_txt t) k type r (a e) f = refl
other-record (new_txt t) k type r (aaaa e) f = refl

pub revise-other :
    (u : Update) (s : Setup) (k : Claim) (type : ℕ) → (instance ≡ k → changes u ≡ type → ⊥) → rdata (revise u s) k type ≡ rdata s k type
revise-other u s k type f = go (claim_record k type) refl
  where
    go : (o : Option Own) → claim_record k type ≡ o → data_of (revise u s) o ≡ data_of s o
    go none e = refl
    go (some r) e =
        let same : own_rdata (revise u s) r ≡ own_rdata s r = rdata-stays s u.new r (other-record u.new k type r (owned k type r e) f) in
        let there : has_record (revise u s) r ≡ has_record s r = record_stays s u.new r in
        λ i. cond (there i) (some (same i)) none

-- the same types are carried
carried : (s : Setup) (k : Claim) (type : ℕ) (r : Own) → claim_record k type ≡ some r → has_record s r ≡ true → rdata s k type ≡ some (own_rdata s r)
carried s k type r e h = ap (data_of s) e ∙ ap (λ (b : Bool). cond b (some (own_rdata s r)) none) h

pub revise-carries :
    (u : Update) (s : Setup) (k : Claim) (type : ℕ) (d : List ℕ) → rdata s k type ≡ some d → (b : List ℕ) × (rdata (revise u s) k type ≡ some b)
revise-carries u s k type d e =
    let w : Has s k type d = has-data s k type d e in
    (own_rdata (revise u s) w.own, carried (revise u s) k type w.own w.is (record_stays s u.new w.own ∙ w.there))

pub revise-carried :
    (u : Update) (s : Setup) (k : Claim) (type : ℕ) (b : List ℕ) → rdata (revise u s) k type ≡ some b → (d : List ℕ) × (rdata s k type ≡ some d)
revise-carried u s k type b e =
    let w : Has (revise u s) k type b = has-data (revise u s) k type b e in
    (own_rdata s w.own, carried s k type w.own w.is (sym (record_stays s u.new w.own) ∙ w.there))

-- the host's probe, and when a probe is later than its records
host-probe : (new : NewData) (s : Setup) → probe_of (revised s new) Host ≡ probe_of s Host
unfolding probe_of probe_records sets.picked own_name own_labels host_labels own_rdata has_record own_record
host-probe (new_port p) s = go s.hasaaaa refl
  where
    go : (b : Bool) → s.hasaaaa ≡ b → probe_of (revised s (new_port p)) Host ≡ probe_of s Host
    go true e = rw e refl
    go false e = rw e refl
host-probe (new_txt t) s = go s.hasaaaa refl
  where
    go : (b : Bool) → s.hasaaaa ≡ b → probe_of (revised s (new_txt t)) Host ≡ probe_of s Host
    go true e = rw e refl
    go false e = rw e refl

host-later : (new : NewData) (s : Setup) (m : Message) → defeats m (revised s new) host ≡ defeats m s host
unfolding defeats theirs_later own_name own_labels host_labels own_rdata has_record
host-later (new_port p) s m = refl
host-later (new_txt t) s m = refl

pub revise-probe :
    (u : Update) (s : Setup) (k : Claim) → (instance ≡ k → ⊥)
    → (rules.probe (revise u s) k ≡ rules.probe s k) × ((m : Message) → defeats m (revise u s) k ≡ defeats m s k)
revise-probe u s instance f = absurd (f refl)
revise-probe u s host f = (host-probe u.new s, host-later u.new s)

-- ---- an update taken

-- the changed record is one of the instance claim's
changed-owned : (change : Change) → claim_record instance (own_type (changed_record change)) ≡ some (changed_record change)
unfolding claim_record of_type
changed-owned Port = refl
changed-owned Txt = refl

changed-there : (s : Setup) (change : Change) → has_record s (changed_record change) ≡ true
unfolding has_record
changed-there s Port = refl
changed-there s Txt = refl

changed-only : (change : Change) → has (changed_record change) (only (changed_record change)) ≡ true
unfolding only
changed-only Port = refl
changed-only Txt = refl

module _ (x : State) (ok : valid_setup x.setup ≡ true) (u : Update) (time : u.time ≤ last_time) (fits : Fits x (law.updates u)) where
  abbrev change : Change
  change = change_of u.new

  pub renewal :
      ((due : ℕ) × (rules.stage (law.next responder rules x (law.updates u)) instance ≡ law.waiting due) × (due ≤ u.time + law.most_draw))
      ⊎ ((rules.stage x instance ≡ law.held)
      × (rules.stage (law.next responder rules x (law.updates u)) instance ≡ law.held)
      × law.Tells responder rules (revise u x.setup) x (law.updates u) instance (changes u) everyone)
  renewal = go (held_now x.progress.instance) refl
    where
      go : (b : Bool) → held_now x.progress.instance ≡ b
          → ((due : ℕ) × (rules.stage (law.next responder rules x (law.updates u)) instance ≡ law.waiting due) × (due ≤ u.time + law.most_draw))
          ⊎ ((rules.stage x instance ≡ law.held)
          × (rules.stage (law.next responder rules x (law.updates u)) instance ≡ law.held)
          × law.Tells responder rules (revise u x.setup) x (law.updates u) instance (changes u) everyone)
      go true h =
          let w = laws.update-announces x.progress u.time change h in
          inr (
            stage_held x.progress.instance h,
            ap stage_of w.0,
            told-all x ok instance (changes u) (changed_record change) (changed-owned change) (law.updates u) (changed-there (revise u x.setup) change)
                (only (changed_record change)) (ap (λ (set : Set). Response set) w.1) (changed-only change),
          )
      go false h =
          let exact : after_ms u.time x.progress.draw ≡ u.time + x.progress.draw = after-exact u.time x.progress.draw time (omega (arith, fits.2)) in
          inl (
            u.time + x.progress.draw,
            ap stage_of (laws.update-restarts x.progress u.time change h fits.1).0 ∙ ap law.waiting exact,
            omega (arith, fits.2),
          )
