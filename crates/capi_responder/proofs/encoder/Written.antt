-- What the writing functions lay down, put together. Assumes nothing.
use Rattle.std.specs.Prelude.{Option}
use mathlib.Core.Path.{◌≡◌, refl, sym, ap, subst, ◌∙◌}
use mathlib.Core.List.{List, [], ◌∷◌, ◌++◌, append_assoc, append-nil}
use Prim.Native.Nat.{ℕ, ◌+◌, ◌*◌, ◌<◌, ◌≤◌}
use borrow.Author.Count.{below_more}
use native.Mathlib.Numerals.{add-one}
use native.Mathlib.Omega.{arith}
use lib.ListN.{length, take}
use lib.Seq.{take-suc, take_all, length-take-le}
use Rattle.claims.specs.records.Own.{all, records, index_of, record_at}
use Rattle.claims.specs.Time.{sent_of}
use Rattle.claims.specs.declared.records.Own.{Own}
use Rattle.claims.specs.declared.records.Own.TheVariants.{Ptr}
use Rattle.claims.specs.declared.ClaimState.{ClaimState}
use Rattle.claims.specs.declared.Multicasts.{Multicasts}
use Rattle.claims.specs.declared.holds.Hold.{Hold}
use Rattle.claims.specs.declared.holds.Holds.{Holds}
use Rattle.claims.specs.declared.records.Set.{Set}
use Rattle.claims.specs.declared.Progress.{Progress}
use Rattle.claims.proofs.records.Sets.{index_low, at-index}
use Rattle.capi_responder.specs.codec.Numbers.{bytes64, Fits64}
use Rattle.capi_responder.specs.codec.Layout as layout
use Rattle.capi_responder.specs.codec.Codec.{claim_due, when_time, case_bytes, claim_bytes, when_bytes, last_bytes, multicasts_bytes, progress_bytes}
use Rattle.capi_responder.specs.codec.Codec.{set_bytes, hold_bytes, holds_bytes}
use Rattle.capi_responder.specs.codec.Codec.{MulticastsFit, HoldFits, HoldsFit, ProgressFits}
use Rattle.capi_responder.specs.encoder.Laid.{Laid}
use Rattle.capi_responder.proofs.encoder.Parts.{laid_next, laid_as}

-- the case and the number by what they are of
pub case_as : {was out : List ℕ} {at tag n t m : ℕ} → Laid was at (case_bytes tag n) out × Fits64 n → tag ≡ t → n ≡ m
    → Laid was at (case_bytes t m) out × Fits64 m
case_as h e f = (record { laid = rw (← e, ← f) h.0.laid; long = h.0.long }, omega (arith, h.1))

-- what one call says that it wrote, of each kind
abbrev PutClaim : List ℕ → ℕ → ClaimState → List ℕ → Type 0
PutClaim was at c out = Laid was at (claim_bytes c) out × Fits64 (claim_due c)

abbrev PutWhen : List ℕ → ℕ → Option ℕ → List ℕ → Type 0
PutWhen was at w out = Laid was at (when_bytes w) out × Fits64 (when_time w)

abbrev PutNumber : List ℕ → ℕ → ℕ → List ℕ → Type 0
PutNumber was at n out = Laid was at (bytes64 n) out × Fits64 n

-- ---- the last multicasts, one behind the other

module _ (m : Multicasts) where
  last-append : (os ps : List Own) → last_bytes m (os ++ ps) ≡ last_bytes m os ++ last_bytes m ps
  unfolding last_bytes
  last-append [] ps = refl
  last-append (o ∷ os) ps = ap (λ (l : List ℕ). when_bytes (sent_of o m) ++ l) (last-append os ps) ∙ sym (append_assoc (when_bytes (sent_of o m)) (last_bytes m os) (last_bytes m ps))

  last-length : (os : List Own) → length (last_bytes m os) ≡ length os * layout.case_size
  unfolding last_bytes bytes64
  last-length [] = refl
  last-length (o ∷ os) = let e : length (last_bytes m os) ≡ length os * layout.case_size = last-length os in omega arith

  -- those of the first `i` records are laid
  pub record Writing (was out : List ℕ) (i : ℕ) : Type 0 where
    pub laid : Laid was layout.multicasts (last_bytes m (take i all)) out
    pub times : (k : ℕ) → k < i → Fits64 (when_time (sent_of (record_at k) m))

  pub none_written : (was : List ℕ) → Writing was was 0
  unfolding last_bytes
  none_written was = record { laid = record { laid = refl; long = refl }; times = λ k h. absurd (omega arith) }

  module _ {was mid : List ℕ} (i : ℕ) (w : Writing was mid i) where
    pub one_written : {out : List ℕ} → i < records → (v : Option ℕ) → v ≡ sent_of (record_at i) m → PutWhen mid (layout.multicasts + i * layout.case_size) v out → Writing was out (i + 1)
    unfolding record_at last_bytes
    one_written h v e p =
        let n : length (last_bytes m (take i all)) ≡ i * layout.case_size = last-length (take i all) ∙ ap (λ (k : ℕ). k * layout.case_size) (length-take-le i all (omega arith)) in
        let more : last_bytes m (take i all) ++ when_bytes v ≡ last_bytes m (take (i + 1) all) =
        ap (λ (x : Option ℕ). last_bytes m (take i all) ++ when_bytes x) e ∙ ap (λ (l : List ℕ). last_bytes m (take i all) ++ l) (sym (append-nil (when_bytes (sent_of (record_at i) m))))
        ∙ sym (last-append (take i all) (record_at i ∷ [])) ∙ ap (last_bytes m) (sym (take-suc all i Ptr h)) ∙ ap (λ (k : ℕ). last_bytes m (take k all)) (sym (add-one i)) in
        record {
          laid = laid_as (laid_next (last_bytes m (take i all)) (when_bytes v) (ap (λ (k : ℕ). layout.multicasts + k) (sym n)) w.laid p.0) more;
          times = below_more (λ (k : ℕ). Fits64 (when_time (sent_of (record_at k) m))) i w.times (subst (λ (x : Option ℕ). Fits64 (when_time x)) e p.1);
        }

    pub all-written : records ≤ i → length m.of ≡ records → Laid was layout.multicasts (multicasts_bytes m) mid × MulticastsFit m
    unfolding multicasts_bytes
    all-written h sized = (
      laid_as w.laid (ap (last_bytes m) (take_all i all h)),
      record { sized = sized; times = λ o. subst (λ (p : Own). Fits64 (when_time (sent_of p m))) (at-index o) (w.times (index_of o) (low o)) },
    )
      where
        low : (o : Own) → index_of o < i
        low o = omega (arith, index_low o)

-- ---- held queries, one behind the other

abbrev PutSet : List ℕ → ℕ → Set → List ℕ → Type 0
PutSet was at set out = Laid was at (set_bytes set) out

abbrev PutHold : List ℕ → ℕ → Hold → List ℕ → Type 0
PutHold was at h out = Laid was at (hold_bytes h) out × HoldFits h

module _ (h : Hold) {at : ℕ} {l₀ l₁ l₂ l₃ l₄ l₅ : List ℕ} where
  pub hold-laid : PutNumber l₀ at h.from.high l₁ → PutNumber l₁ (layout.low at) h.from.low l₂ → PutWhen l₂ (layout.due at) h.due l₃
      → PutSet l₃ (layout.asked at) h.asked l₄ → PutSet l₄ (layout.known at) h.known l₅ → PutHold l₀ at h l₅
  unfolding hold_bytes set_bytes bytes64
  hold-laid high low due asked known = (
    laid_next (bytes64 h.from.high) _ refl high.0
        (laid_next (bytes64 h.from.low) _ refl low.0
        (laid_next (when_bytes h.due) _ refl due.0 (laid_next (set_bytes h.asked) _ refl asked known))),
    record { high = high.1; low = low.1; due = due.1 },
  )

module _ (holds : Holds) {l₀ l₁ l₂ l₃ l₄ : List ℕ} where
  pub holds-laid : PutHold l₀ (layout.hold 0) holds.first l₁ → PutHold l₁ (layout.hold 1) holds.second l₂
      → PutHold l₂ (layout.hold 2) holds.third l₃ → PutHold l₃ (layout.hold 3) holds.fourth l₄
      → Laid l₀ layout.holds (holds_bytes holds) l₄ × HoldsFit holds
  unfolding holds_bytes hold_bytes set_bytes bytes64
  holds-laid first second third fourth = (
    laid_next (hold_bytes holds.first) _ refl first.0
        (laid_next (hold_bytes holds.second) _ refl second.0 (laid_next (hold_bytes holds.third) _ refl third.0 fourth.0)),
    record { first = first.1; second = second.1; third = third.1; fourth = fourth.1 },
  )

module _ (progress : Progress) {l₀ l₁ l₂ l₃ l₄ l₅ l₆ l₇ l₈ : List ℕ} where
  pub progress_laid : PutClaim l₀ layout.instance_claim progress.instance l₁ → PutClaim l₁ layout.host_claim progress.host l₂
      → Laid l₂ layout.multicasts (multicasts_bytes progress.sent) l₃ × MulticastsFit progress.sent → PutWhen l₃ layout.reply progress.reply l₄
      → PutWhen l₄ layout.updated progress.updated l₅
      → Laid l₅ layout.holds (holds_bytes progress.holds) l₆ × HoldsFit progress.holds
      → PutNumber l₆ layout.draw progress.draw l₇ → PutNumber l₇ layout.last progress.last l₈
      → Laid l₀ layout.setup_size (progress_bytes progress) l₈ × ProgressFits progress
  unfolding progress_bytes multicasts_bytes last_bytes holds_bytes hold_bytes set_bytes bytes64
  progress_laid instance host sent reply updated holds draw last = (
    laid_next (claim_bytes progress.instance) _ refl instance.0
        (laid_next (claim_bytes progress.host) _ refl host.0
        (laid_next (multicasts_bytes progress.sent) _ refl sent.0
        (laid_next (when_bytes progress.reply) _ refl reply.0
        (laid_next (when_bytes progress.updated) _ refl updated.0
        (laid_next (holds_bytes progress.holds) _ refl holds.0
        (laid_next (bytes64 progress.draw) _ refl draw.0 last.0)))))),
    record { instance = instance.1; host = host.1; sent = sent.1; reply = reply.1; holds = holds.1; updated = updated.1; draw = draw.1; last = last.1 },
  )
