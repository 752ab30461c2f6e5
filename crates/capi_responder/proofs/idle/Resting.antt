-- A state's bytes at rest: what changes keeps only times that may be kept, has no step due, and stands in the bytes that would be written of it.
-- Assumes nothing.
use mathlib.Core.Path.{◌≡◌, refl, ap, ◌∙◌}
use mathlib.Core.Bool.{Bool, true, false, ◌&&◌, ◌||◌}
use mathlib.Core.List.{List, [], ◌++◌}
use mathlib.Mathlib.Data.Bool.Basic.{and-eq-true-eq-eq-true-and-eq-true as both}
use Prim.Native.Nat.{ℕ, ◌≤◌}
use native.Mathlib.Omega.{arith}
use borrow.Author.Tests.{leb-true, le-leb}
use lib.Dec.{leb}
use lib.ListN.{length, drop, drop_of_length-le}
use Rattle.claims.specs.records.Sets.{some_of, every_of}
use Rattle.claims.specs.Time.{last_time, last_kept, sent_of, due_by}
use Rattle.claims.specs.Refusals as refusals
use Rattle.claims.specs.steps.Steps.{more_due}
use Rattle.claims.specs.steps.Tick.{with_last}
use Rattle.claims.specs.holds.Holds.{places, hold_at}
use Rattle.claims.specs.declared.holds.Holds.{Holds}
use Rattle.claims.specs.declared.records.Own.{Own}
use Rattle.claims.specs.declared.records.Own.TheVariants.{Ptr, Srv, Txt, A, Aaaa, InstanceNsec, HostNsec}
use Rattle.capi_responder.specs.codec.Numbers.{word64, bytes64, Fits64}
use Rattle.capi_responder.specs.codec.Layout as layout
use Rattle.capi_responder.specs.codec.Parts.{claim_at, when_at, sent_at, multicasts_at, holds_at, progress_at}
use Rattle.capi_responder.specs.codec.Codec.{when_time, claim_bytes, when_bytes, last_bytes, multicasts_bytes, holds_bytes, progress_bytes, MulticastsFit, ProgressFits}
use Rattle.capi_responder.specs.idle.Idle.{claim_rests, reply_rests, when_kept, multicasts_kept, none_held, nothing_due}
use Rattle.capi_responder.proofs.idle.Bytes.{Bytes, number-stands}
use Rattle.capi_responder.proofs.idle.Unheld.{Unheld, unheld}
use Rattle.capi_responder.proofs.idle.Cases.{ClaimAtRest, WhenAtRest, claim_rests_lem, when_kept_lem, reply-rests}

also : {x y : Bool} → x ≡ true → y ≡ true → (x && y) ≡ true
also {x} {y} p q = ap (λ (v : Bool). v && y) p ∙ q

nor : {x y : Bool} → x ≡ false → y ≡ false → (x || y) ≡ false
nor {x} {y} p q = ap (λ (v : Bool). v || y) p ∙ q

-- every last multicast
record EachKept (b : List ℕ) : Type 0 where
  ptr : WhenAtRest b 597
  srv : WhenAtRest b 606
  txt : WhenAtRest b 615
  a : WhenAtRest b 624
  aaaa : WhenAtRest b 633
  instance-nsec : WhenAtRest b 642
  host-nsec : WhenAtRest b 651

-- what is known of bytes at rest
pub record AtRest (b : List ℕ) (time : ℕ) : Type 0 where
  pub same : drop layout.setup_size b ≡ progress_bytes (progress_at b)
  pub kept : refusals.kept last_kept (progress_at b) ≡ true
  pub before : (progress_at b).last ≤ time
  pub drawn : (progress_at b).draw ≤ 250
  pub quiet : more_due (progress_at b) time ≡ false
  pub fits : ProgressFits (with_last time (progress_at b))

module _ (b : List ℕ) (bytes : Bytes b) (long : length b ≡ layout.state_size) (time : ℕ) (early : time ≤ last_time) where
  each-kept : multicasts_kept b ≡ true → EachKept b
  unfolding multicasts_kept every_of
  each-kept h =
      let h₀ = (both (when_kept b 597) _).0 h in
      let h₁ = (both (when_kept b 606) _).0 h₀.1 in
      let h₂ = (both (when_kept b 615) _).0 h₁.1 in
      let h₃ = (both (when_kept b 624) _).0 h₂.1 in
      let h₄ = (both (when_kept b 633) _).0 h₃.1 in
      let h₅ = (both (when_kept b 642) _).0 h₄.1 in
      let h₆ = (both (when_kept b 651) _).0 h₅.1 in
      record {
        ptr = when_kept_lem b bytes 597 (omega arith) h₀.0;
        srv = when_kept_lem b bytes 606 (omega arith) h₁.0;
        txt = when_kept_lem b bytes 615 (omega arith) h₂.0;
        a = when_kept_lem b bytes 624 (omega arith) h₃.0;
        aaaa = when_kept_lem b bytes 633 (omega arith) h₄.0;
        instance-nsec = when_kept_lem b bytes 642 (omega arith) h₅.0;
        host-nsec = when_kept_lem b bytes 651 (omega arith) h₆.0;
      }

  module _ (instance : ClaimAtRest b 579 time) (host : ClaimAtRest b 588 time) (w : EachKept b) (reply : WhenAtRest b 660) (updated : WhenAtRest b 669) (held : Unheld b) where
    -- the parts, one behind the other
    stands : drop layout.setup_size b ≡ progress_bytes (progress_at b)
    unfolding progress_at progress_bytes multicasts_bytes last_bytes multicasts_at sent_at bytes64
    stands =
        let done : length b ≤ 850 = omega arith in
        let ended : drop 850 b ≡ [] = drop_of_length-le b done in
        instance.same
        ∙ ap (λ (l : List ℕ). claim_bytes (claim_at b 579) ++ l) (host.same
        ∙ ap (λ (l : List ℕ). claim_bytes (claim_at b 588) ++ l) (w.ptr.same
        ∙ ap (λ (l : List ℕ). when_bytes (when_at b 597) ++ l) (w.srv.same
        ∙ ap (λ (l : List ℕ). when_bytes (when_at b 606) ++ l) (w.txt.same
        ∙ ap (λ (l : List ℕ). when_bytes (when_at b 615) ++ l) (w.a.same
        ∙ ap (λ (l : List ℕ). when_bytes (when_at b 624) ++ l) (w.aaaa.same
        ∙ ap (λ (l : List ℕ). when_bytes (when_at b 633) ++ l) (w.instance-nsec.same
        ∙ ap (λ (l : List ℕ). when_bytes (when_at b 642) ++ l) (w.host-nsec.same
        ∙ ap (λ (l : List ℕ). when_bytes (when_at b 651) ++ l) (reply.same
        ∙ ap (λ (l : List ℕ). when_bytes (when_at b 660) ++ l) (updated.same
        ∙ ap (λ (l : List ℕ). when_bytes (when_at b 669) ++ l) (held.same
        ∙ ap (λ (l : List ℕ). holds_bytes (holds_at b) ++ l) (number-stands b 834 (omega arith) bytes
        ∙ ap (λ (l : List ℕ). bytes64 (word64 b 834) ++ l) (number-stands b 842 (omega arith) bytes
        ∙ ap (λ (l : List ℕ). bytes64 (word64 b 842) ++ l) ended)))))))))))))

    sent_fits : (o : Own) → Fits64 (when_time (sent_of o (multicasts_at b)))
    unfolding multicasts_at sent_at
    sent_fits Ptr = w.ptr.fits
    sent_fits Srv = w.srv.fits
    sent_fits Txt = w.txt.fits
    sent_fits A = w.a.fits
    sent_fits Aaaa = w.aaaa.fits
    sent_fits InstanceNsec = w.instance-nsec.fits
    sent_fits HostNsec = w.host-nsec.fits

    sent_sized : MulticastsFit (multicasts_at b)
    unfolding multicasts_at
    sent_sized = record { sized = refl; times = sent_fits }

    sent_kept : refusals.multicasts_kept last_kept (multicasts_at b) ≡ true
    unfolding refusals.multicasts_kept every_of multicasts_at sent_at
    sent_kept =
        also w.ptr.kept (also w.srv.kept (also w.txt.kept (also w.a.kept (also w.aaaa.kept
        (also w.instance-nsec.kept (also w.host-nsec.kept refl))))))

    module _ (before : word64 b 842 ≤ time) (drawn : word64 b 834 ≤ 250) where
      all-kept : refusals.kept last_kept (progress_at b) ≡ true
      unfolding refusals.kept progress_at
      all-kept =
          let k : word64 b 842 ≤ last_kept = omega arith in
          also instance.rests.kept (also host.rests.kept (also sent_kept (also reply.kept (also held.kept (also updated.kept (le-leb (word64 b 842) last_kept k))))))

      all-fits : ProgressFits (with_last time (progress_at b))
      unfolding progress_at
      all-fits = record {
        instance = instance.fits;
        host = host.fits;
        sent = sent_sized;
        reply = reply.fits;
        holds = held.fits;
        updated = updated.fits;
        draw = omega (arith, drawn);
        last = omega (arith, early);
      }

  none-due : ClaimAtRest b 579 time → ClaimAtRest b 588 time → WhenAtRest b 660 × (◌≡◌ {A = Bool} (due_by (when_at b 660) time) false) → Unheld b → more_due (progress_at b) time ≡ false
  unfolding more_due some_of progress_at
  none-due instance host reply held = nor instance.rests.rests (nor host.rests.rests (nor reply.1 (ap (λ (x : Holds). some_of (λ p. due_by (hold_at p x).due time) places) held.none)))

  pub at_rest : nothing_due b time ≡ true → AtRest b time
  unfolding nothing_due progress_at
  at_rest h =
      let h₀ = (both (claim_rests b 579 time) _).0 h in
      let h₁ = (both (claim_rests b 588 time) _).0 h₀.1 in
      let h₂ = (both (reply_rests b 660 time) _).0 h₁.1 in
      let h₆ = (both (when_kept b 669) _).0 h₂.1 in
      let h₅ = (both (none_held b) _).0 h₆.1 in
      let h₃ = (both (leb (word64 b 834) 250) _).0 h₅.1 in
      let h₄ = (both (leb (word64 b 842) time) _).0 h₃.1 in
      let instance = claim_rests_lem b bytes 579 (omega arith) time h₀.0 in
      let host = claim_rests_lem b bytes 588 (omega arith) time h₁.0 in
      let reply = reply-rests b bytes 660 (omega arith) time h₂.0 in
      let updated = when_kept_lem b bytes 669 (omega arith) h₆.0 in
      let held = unheld b bytes long h₅.0 in
      let w = each-kept h₄.1 in
      let drawn : word64 b 834 ≤ 250 = leb-true _ _ h₃.0 in
      let before : word64 b 842 ≤ time = leb-true _ _ h₄.0 in
      record {
        same = stands instance host w reply.0 updated held;
        kept = all-kept instance host w reply.0 updated held before drawn;
        before = before;
        drawn = drawn;
        quiet = none-due instance host reply held;
        fits = all-fits instance host w reply.0 updated held before drawn;
      }
