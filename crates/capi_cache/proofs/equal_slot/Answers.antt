use Rattle.std.proofs.Common.{◌≡◌, ℕ, ◌+◌, ◌<◌, true, false, length, get_or, drop, sym, ap, subst, ◌∙◌, arith}
use Rattle.cache.specs.entries.Entries.{blank}
use Rattle.cache.specs.entries.Tables.{slot_from}
use Rattle.cache.specs.declared.entries.Entry.{Entry}
use Rattle.cache.specs.records.Heard.{may_hold, has_bytes, holds_heard}
use Rattle.cache.specs.records.Taking.{equal_in}
use Rattle.cache.proofs.records.Seeking.{seek_here, seek_on, seek_end}
use Rattle.capi_cache.specs.Types.{Passed}
use Rattle.capi_cache.proofs.Flushing.{equal_from, equal_is, likely_after, likely_may, bytes_test}
use Rattle.capi_cache.proofs.equal_slot.Goals as goal

pub loop-i-init : goal.loop-i-init
loop-i-init c =
    let es = c.args.table.now in
    let h = c.args.h in
    let near = c.past_others-near.result in
    let p = subst (λ (k : ℕ). Passed h.at.rtype es k near) (c.seek_from-first.ensures) c.past_others-near.ensures in
    let i-is = sym c.likely_slot-i.ensures in (
      subst (λ (k : ℕ). k < length es → may_hold c.args.time h (get_or es k blank) ≡ true) i-is (likely_may c.args.time h es near),
      subst (λ (k : ℕ). slot_from (holds_heard c.args.time c.args.store.now c.args.slot.now h) k (drop k es) ≡ equal_in c.args.time c.args.store.now c.args.slot.now h es) i-is (equal_is c.args.time c.args.store.now c.args.slot.now h es near p),
    )

pub returns-then-has_bytes : goal.returns-then-has_bytes
returns-then-has_bytes c =
    let es = c.args.table.now in
    let less : c.loop-i.i < length es = omega (arith) in
    let t = ap (λ (e : Entry). has_bytes c.args.store.now c.args.slot.now c.args.h c.loop-i.i e) (sym c.entry_at.ensures) ∙ sym c.if-has_bytes.ensures in
    seek_here (holds_heard c.args.time c.args.store.now c.args.slot.now c.args.h) es c.loop-i.i less (bytes_test c.args.time c.args.store.now c.args.slot.now c.args.h es c.loop-i.i (c.loop-i.invariant.0 less) true t)
    ∙ c.loop-i.invariant.1

pub loop-i-smaller : goal.loop-i-smaller
loop-i-smaller c = omega (arith, c.likely_slot-i-in-loop-i.ensures, likely_after c.args.time c.args.h c.args.table.now (c.loop-i.i + 1))

pub loop-i-preserved : goal.loop-i-preserved
loop-i-preserved c =
    let es = c.args.table.now in
    let h = c.args.h in
    let less : c.loop-i.i < length es = omega (arith) in
    let t = ap (λ (e : Entry). has_bytes c.args.store.now c.args.slot.now h c.loop-i.i e) (sym c.entry_at.ensures) ∙ sym c.if-has_bytes.ensures in
    let rest =
    equal_from c.args.time c.args.store.now c.args.slot.now h es (c.loop-i.i + 1)
    ∙ seek_on (holds_heard c.args.time c.args.store.now c.args.slot.now h) es c.loop-i.i less (bytes_test c.args.time c.args.store.now c.args.slot.now h es c.loop-i.i (c.loop-i.invariant.0 less) false t)
    ∙ c.loop-i.invariant.1 in
    let i-is = sym c.likely_slot-i-in-loop-i.ensures in (
      subst (λ (k : ℕ). k < length es → may_hold c.args.time h (get_or es k blank) ≡ true) i-is (likely_may c.args.time h es (c.loop-i.i + 1)),
      subst (λ (k : ℕ). slot_from (holds_heard c.args.time c.args.store.now c.args.slot.now h) k (drop k es) ≡ equal_in c.args.time c.args.store.now c.args.slot.now h es) i-is rest,
    )

pub returns : goal.returns
returns c =
    seek_end (holds_heard c.args.time c.args.store.now c.args.slot.now c.args.h) c.args.table.now c.loop-i.i (omega (arith)) ∙ c.loop-i.invariant.1
