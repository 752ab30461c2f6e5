use mathlib.Core.Path.{◌≡◌, refl, ap, ◌∙◌}
use mathlib.Core.Bool.{◌&&◌}
use Prim.Native.Nat.{ℕ}
use lib.Dec.{leb}
use Rattle.capi_responder.specs.codec.Numbers.{word64}
use Rattle.capi_responder.specs.codec.Layout as layout
use Rattle.capi_responder.specs.idle.Idle.{claim_rests, reply_rests, when_kept, none_held, multicasts_kept, nothing_due}
use Rattle.capi_responder.proofs.idle.Tests.{on, off, regroup}
use Rattle.capi_responder.proofs.idle.nothing_due.Goals as goal
use Rattle.capi_responder.proofs.idle.nothing_due.Goals.{then-claim_rests, else-claim_rests}
use Rattle.capi_responder.proofs.idle.nothing_due.Goals.{then-claim_rests-2, else-claim_rests-2}
use Rattle.capi_responder.proofs.idle.nothing_due.Goals.{then-reply_rests, else-reply_rests}
use Rattle.capi_responder.proofs.idle.nothing_due.Goals.{then-when_kept, else-when_kept}
use Rattle.capi_responder.proofs.idle.nothing_due.Goals.{then-none_held, else-none_held}
use Rattle.capi_responder.proofs.idle.nothing_due.Goals.{then-number_at-le250, else-number_at-le250}

pub returns-then-number_at-time : goal.returns-then-number_at-time
unfolding nothing_due
returns-then-number_at-time c =
    let b = c.args.b.now in
    let t = c.args.time in
    let instance = claim_rests b layout.instance_claim t in
    let host = claim_rests b layout.host_claim t in
    let reply = reply_rests b layout.reply t in
    let updated = when_kept b layout.updated in
    let free = none_held b in
    let draw = leb (word64 b layout.draw) 250 in
    let last = leb (word64 b layout.last) t in
    let v1 : c.if-claim_rests.value ≡ (instance && host) = elim c.if-claim_rests.branch [
      | then-claim_rests w ↦ on c.claim_rests.ensures w.if-claim_rests.true w.value-is w.claim_rests-then-claim_rests.ensures
      | else-claim_rests w ↦ off host c.claim_rests.ensures w.if-claim_rests.false w.value-is
    ] in
    let v2 : c.if-claim_rests-2.value ≡ ((instance && host) && reply) = elim c.if-claim_rests-2.branch [
      | then-claim_rests-2 w ↦ on v1 w.if-claim_rests-2.true w.value-is w.reply_rests.ensures
      | else-claim_rests-2 w ↦ off reply v1 w.if-claim_rests-2.false w.value-is
    ] in
    let v3 : c.if-reply_rests.value ≡ (((instance && host) && reply) && updated) = elim c.if-reply_rests.branch [
      | then-reply_rests w ↦ on v2 w.if-reply_rests.true w.value-is w.when_kept.ensures
      | else-reply_rests w ↦ off updated v2 w.if-reply_rests.false w.value-is
    ] in
    let v4 : c.if-when_kept.value ≡ ((((instance && host) && reply) && updated) && free) = elim c.if-when_kept.branch [
      | then-when_kept w ↦ on v3 w.if-when_kept.true w.value-is w.none_held.ensures
      | else-when_kept w ↦ off free v3 w.if-when_kept.false w.value-is
    ] in
    let v5 : c.if-none_held.value ≡ (((((instance && host) && reply) && updated) && free) && draw) = elim c.if-none_held.branch [
      | then-none_held w ↦ on v4 w.if-none_held.true w.value-is (ap (λ (n : ℕ). leb n 250) w.number_at.ensures)
      | else-none_held w ↦ off draw v4 w.if-none_held.false w.value-is
    ] in
    let v6 : c.if-number_at-le250.value ≡ ((((((instance && host) && reply) && updated) && free) && draw) && last) = elim c.if-number_at-le250.branch [
      | then-number_at-le250 w ↦ on v5 w.if-number_at-le250.true w.value-is (ap (λ (n : ℕ). leb n t) w.number_at-then-number_at-le250.ensures)
      | else-number_at-le250 w ↦ off last v5 w.if-number_at-le250.false w.value-is
    ] in
    on v6 c.if-number_at-time.true refl c.multicasts_kept.ensures ∙ regroup instance host reply updated free draw last (multicasts_kept b)

pub returns-else-number_at-time : goal.returns-else-number_at-time
unfolding nothing_due
returns-else-number_at-time c =
    let b = c.args.b.now in
    let t = c.args.time in
    let instance = claim_rests b layout.instance_claim t in
    let host = claim_rests b layout.host_claim t in
    let reply = reply_rests b layout.reply t in
    let updated = when_kept b layout.updated in
    let free = none_held b in
    let draw = leb (word64 b layout.draw) 250 in
    let last = leb (word64 b layout.last) t in
    let v1 : c.if-claim_rests.value ≡ (instance && host) = elim c.if-claim_rests.branch [
      | then-claim_rests w ↦ on c.claim_rests.ensures w.if-claim_rests.true w.value-is w.claim_rests-then-claim_rests.ensures
      | else-claim_rests w ↦ off host c.claim_rests.ensures w.if-claim_rests.false w.value-is
    ] in
    let v2 : c.if-claim_rests-2.value ≡ ((instance && host) && reply) = elim c.if-claim_rests-2.branch [
      | then-claim_rests-2 w ↦ on v1 w.if-claim_rests-2.true w.value-is w.reply_rests.ensures
      | else-claim_rests-2 w ↦ off reply v1 w.if-claim_rests-2.false w.value-is
    ] in
    let v3 : c.if-reply_rests.value ≡ (((instance && host) && reply) && updated) = elim c.if-reply_rests.branch [
      | then-reply_rests w ↦ on v2 w.if-reply_rests.true w.value-is w.when_kept.ensures
      | else-reply_rests w ↦ off updated v2 w.if-reply_rests.false w.value-is
    ] in
    let v4 : c.if-when_kept.value ≡ ((((instance && host) && reply) && updated) && free) = elim c.if-when_kept.branch [
      | then-when_kept w ↦ on v3 w.if-when_kept.true w.value-is w.none_held.ensures
      | else-when_kept w ↦ off free v3 w.if-when_kept.false w.value-is
    ] in
    let v5 : c.if-none_held.value ≡ (((((instance && host) && reply) && updated) && free) && draw) = elim c.if-none_held.branch [
      | then-none_held w ↦ on v4 w.if-none_held.true w.value-is (ap (λ (n : ℕ). leb n 250) w.number_at.ensures)
      | else-none_held w ↦ off draw v4 w.if-none_held.false w.value-is
    ] in
    let v6 : c.if-number_at-le250.value ≡ ((((((instance && host) && reply) && updated) && free) && draw) && last) = elim c.if-number_at-le250.branch [
      | then-number_at-le250 w ↦ on v5 w.if-number_at-le250.true w.value-is (ap (λ (n : ℕ). leb n t) w.number_at-then-number_at-le250.ensures)
      | else-number_at-le250 w ↦ off last v5 w.if-number_at-le250.false w.value-is
    ] in
    off (multicasts_kept b) v6 c.if-number_at-time.false refl ∙ regroup instance host reply updated free draw last (multicasts_kept b)
