use Rattle.std.proofs.Common.{ℕ, ap, sym, ◌∙◌, arith}
use Rattle.cache.specs.declared.entries.Entry.{Entry}
use Rattle.cache.specs.records.Heard.{may_hold}
use Rattle.cache.proofs.records.Seeking.{seek_here, seek_on, seek_last}
use Rattle.capi_cache.proofs.Flushing.{likely_is}
use Rattle.capi_cache.proofs.likely_slot.Goals as goal

pub loop-i-init : goal.loop-i-init
loop-i-init c = likely_is c.args.time c.args.h c.args.table.now c.args.from

pub returns-then-may_hold : goal.returns-then-may_hold
returns-then-may_hold c = seek_here (λ j e. may_hold c.args.time c.args.h e) c.args.table.now c.loop-i.i (omega arith) (ap (λ (e : Entry). may_hold c.args.time c.args.h e) (sym c.entry_at.ensures) ∙ sym c.if-may_hold.ensures) ∙ c.loop-i.invariant

pub loop-i-preserved : goal.loop-i-preserved
loop-i-preserved c = seek_on (λ j e. may_hold c.args.time c.args.h e) c.args.table.now c.loop-i.i (omega arith) (ap (λ (e : Entry). may_hold c.args.time c.args.h e) (sym c.entry_at.ensures) ∙ sym c.if-may_hold.ensures) ∙ c.loop-i.invariant

pub returns : goal.returns
returns c =
    let test = λ (j : ℕ) (e : Entry). may_hold c.args.time c.args.h e in
    let is = likely_is c.args.time c.args.h c.args.table.now c.args.from in
    seek_last test c.args.table.now c.args.from c.loop-i.i c.max.result c.max.ensures c.loop-i-test.false c.loop-i.auto.i-end (c.loop-i.invariant ∙ sym is) ∙ is
