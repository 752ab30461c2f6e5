-- A claim, the reply and a last multicast at rest: what is read of their bytes, and that the bytes of what is read stand there. Assumes nothing.
use Rattle.std.specs.Prelude.{Option, Some, None}
use mathlib.Core.Path.{◌≡◌, refl, sym, ap, ◌∙◌}
use mathlib.Core.Bool.{Bool, true, false, cond, ◌&&◌}
use mathlib.Core.List.{List, ◌++◌}
use mathlib.Mathlib.Data.Bool.Basic.{and-eq-true-eq-eq-true-and-eq-true as both}
use Prim.Native.Nat.{ℕ, zero, suc, ◌+◌, ◌%◌, ◌<◌, ◌≤◌}
use native.Mathlib.Omega.{arith}
use borrow.Author.Tests.{ltb-true, ltb-false, leb-true, eqb-true, lt-leb, le-leb}
use lib.Dec.{ltb, leb, eqb}
use lib.ListN.{length, drop}
use Rattle.wire.specs.octets.Octets.{byte_at}
use Rattle.claims.specs.Time.{last_kept, at_most, due_by}
use Rattle.claims.specs.Claims.{due_of}
use Rattle.capi_responder.specs.codec.Numbers.{word64, Fits64}
use Rattle.capi_responder.specs.codec.Parts.{claim_of, claim_at, when_at}
use Rattle.capi_responder.specs.codec.Codec.{claim_tag, claim_due, when_time, claim_bytes, when_bytes}
use Rattle.capi_responder.specs.idle.Idle.{to_come, claim_rests, reply_rests, when_kept}
use Rattle.capi_responder.proofs.idle.Bytes.{Bytes, case_stands}

-- ---- a claim by its case

abbrev Told : ℕ → ℕ → Option ℕ → Type 0
Told tag due w = (claim_tag (claim_of tag due) ≡ tag) × (claim_due (claim_of tag due) ≡ due) × (due_of (claim_of tag due) ≡ w)

moving : (tag due : ℕ) → tag < 6 → Told tag due (Some due)
moving zero due h = (refl, refl, refl)
moving (suc zero) due h = (refl, refl, refl)
moving (suc (suc zero)) due h = (refl, refl, refl)
moving (suc (suc (suc zero))) due h = (refl, refl, refl)
moving (suc (suc (suc (suc zero)))) due h = (refl, refl, refl)
moving (suc (suc (suc (suc (suc zero))))) due h = (refl, refl, refl)
moving (suc (suc (suc (suc (suc (suc n)))))) due h = absurd (omega arith)

settled : (tag : ℕ) → 6 ≤ tag → tag < 8 → Told tag 0 None
settled zero h k = absurd (omega arith)
settled (suc zero) h k = absurd (omega arith)
settled (suc (suc zero)) h k = absurd (omega arith)
settled (suc (suc (suc zero))) h k = absurd (omega arith)
settled (suc (suc (suc (suc zero)))) h k = absurd (omega arith)
settled (suc (suc (suc (suc (suc zero))))) h k = absurd (omega arith)
settled (suc (suc (suc (suc (suc (suc zero)))))) h k = (refl, refl, refl)
settled (suc (suc (suc (suc (suc (suc (suc zero))))))) h k = (refl, refl, refl)
settled (suc (suc (suc (suc (suc (suc (suc (suc n)))))))) h k = absurd (omega arith)

-- what is known of a time that rests
pub record Rests (w : Option ℕ) (time : ℕ) : Type 0 where
  pub kept : at_most last_kept w ≡ true
  pub rests : due_by w time ≡ false

never_rests : (time : ℕ) → Rests None time
never_rests time = record { kept = refl; rests = refl }

to_come_lem : (due time : ℕ) → to_come due time ≡ true → Rests (Some due) time × Fits64 due
to_come_lem due time h =
    let f = (both (ltb time due) (leb due last_kept)).0 h in
    let l : time < due = ltb-true _ _ f.0 in
    let k : due ≤ last_kept = leb-true _ _ f.1 in
    (record { kept = f.1; rests = lt-leb due time l }, omega arith)

-- a claim as it stands, at rest
pub record ClaimAtRest (b : List ℕ) (at time : ℕ) : Type 0 where
  pub same : drop at b ≡ claim_bytes (claim_at b at) ++ drop (at + 9) b
  pub rests : Rests (due_of (claim_at b at)) time
  pub fits : Fits64 (claim_due (claim_at b at))

-- a time as it stands, kept
pub record WhenAtRest (b : List ℕ) (at : ℕ) : Type 0 where
  pub same : drop at b ≡ when_bytes (when_at b at) ++ drop (at + 9) b
  pub kept : at_most last_kept (when_at b at) ≡ true
  pub fits : Fits64 (when_time (when_at b at))

module _ (b : List ℕ) (bytes : Bytes b) (at : ℕ) (long : at + 9 ≤ length b) where
  abbrev tag : ℕ
  tag = byte_at b at

  abbrev n : ℕ
  n = word64 b (at + 1)

  claim_told : {w : Option ℕ} (time : ℕ) → Told tag n w → Rests w time → Fits64 n → ClaimAtRest b at time
  unfolding claim_at
  claim_told time t r f = record {
    same = case_stands b bytes at _ _ long (sym t.0) (sym t.1);
    rests = record { kept = ap (at_most last_kept) t.2 ∙ r.kept; rests = ap (λ (v : Option ℕ). due_by v time) t.2 ∙ r.rests };
    fits = omega (arith, t.1);
  }

  pub claim_rests_lem : (time : ℕ) → claim_rests b at time ≡ true → ClaimAtRest b at time
  unfolding claim_rests
  claim_rests_lem time h = go (ltb tag 6) refl h
    where
      go : (v : Bool) → ltb tag 6 ≡ v → cond v (to_come n time) (ltb tag 8 && eqb n 0) ≡ true → ClaimAtRest b at time
      go true e g = let r = to_come_lem n time g in claim_told time (moving tag n (ltb-true _ _ e)) r.0 r.1
      go false e g =
          let f = (both (ltb tag 8) (eqb n 0)).0 g in
          let z : n ≡ 0 = eqb-true _ _ f.1 in
          claim_told time (rw z (settled tag (ltb-false _ _ e) (ltb-true _ _ f.0))) (never_rests time) (omega arith)

  when_never : byte_at b at ≡ 0 → when_at b at ≡ None
  unfolding when_at
  when_never e = ap (λ (v : ℕ). cond (eqb (v % 2) 1) (Some n) None) e

  when_at_lem : byte_at b at ≡ 1 → when_at b at ≡ Some n
  unfolding when_at
  when_at_lem e = ap (λ (v : ℕ). cond (eqb (v % 2) 1) (Some n) None) e

  unset : byte_at b at ≡ 0 → n ≡ 0 → WhenAtRest b at
  unset e z = record {
    same = case_stands b bytes at 0 0 long e z ∙ ap (λ (v : Option ℕ). when_bytes v ++ drop (at + 9) b) (sym (when_never e));
    kept = ap (at_most last_kept) (when_never e);
    fits = omega (arith, ap when_time (when_never e));
  }

  set : byte_at b at ≡ 1 → n ≤ last_kept → WhenAtRest b at
  set e k = record {
    same = case_stands b bytes at 1 n long e refl ∙ ap (λ (v : Option ℕ). when_bytes v ++ drop (at + 9) b) (sym (when_at_lem e));
    kept = ap (at_most last_kept) (when_at_lem e) ∙ le_kept;
    fits = omega (arith, ap when_time (when_at_lem e));
  }
    where
      le_kept : leb n last_kept ≡ true
      le_kept = le-leb n last_kept k

  pub when_kept_lem : when_kept b at ≡ true → WhenAtRest b at
  unfolding when_kept
  when_kept_lem h = go (eqb tag 0) refl h
    where
      go : (v : Bool) → eqb tag 0 ≡ v → cond v (eqb n 0) (eqb tag 1 && leb n last_kept) ≡ true → WhenAtRest b at
      go true e g = unset (eqb-true _ _ e) (eqb-true _ _ g)
      go false e g = let f = (both (eqb tag 1) (leb n last_kept)).0 g in set (eqb-true _ _ f.0) (leb-true _ _ f.1)

  pub reply-rests : (time : ℕ) → reply_rests b at time ≡ true → WhenAtRest b at × (due_by (when_at b at) time ≡ false)
  unfolding reply_rests
  reply-rests time h = go (eqb tag 0) refl h
    where
      go : (v : Bool) → eqb tag 0 ≡ v → cond v (eqb n 0) (eqb tag 1 && to_come n time) ≡ true → WhenAtRest b at × (due_by (when_at b at) time ≡ false)
      go true e g = (unset (eqb-true _ _ e) (eqb-true _ _ g), ap (λ (v : Option ℕ). due_by v time) (when_never (eqb-true _ _ e)))
      go false e g =
          let f = (both (eqb tag 1) (to_come n time)).0 g in
          let m = (both (ltb time n) (leb n last_kept)).0 f.1 in
          (set (eqb-true _ _ f.0) (leb-true _ _ m.1), ap (λ (v : Option ℕ). due_by v time) (when_at_lem (eqb-true _ _ f.0)) ∙ (to_come_lem n time f.1).0.rests)
