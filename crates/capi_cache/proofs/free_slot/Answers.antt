use Rattle.std.proofs.Common.{not, get_or, ap, sym, ◌∙◌, arith}
use Rattle.cache.specs.entries.Entries.{blank, is_live, is_free}
use Rattle.cache.specs.declared.entries.Entry.{Entry}
use Rattle.cache.proofs.records.Seeking.{seek_here, seek_on, seek_last}
use Rattle.capi_cache.proofs.Flushing.{free_is, free_test}
use Rattle.capi_cache.proofs.free_slot.Goals as goal

pub loop-i-init : goal.loop-i-init
loop-i-init c = free_is c.args.time c.args.table.now c.args.from

pub returns-then-not-is_live : goal.returns-then-not-is_live
returns-then-not-is_live c =
    let t = free_test c.args.time c.loop-i.i (get_or c.args.table.now c.loop-i.i blank) ∙ ap (λ (e : Entry). not (is_live c.args.time e)) (sym c.entry_at.ensures) ∙ ap not (sym c.if-not-is_live.ensures) in
    seek_here (is_free c.args.time) c.args.table.now c.loop-i.i (omega arith) t ∙ c.loop-i.invariant

pub loop-i-preserved : goal.loop-i-preserved
loop-i-preserved c =
    let t = free_test c.args.time c.loop-i.i (get_or c.args.table.now c.loop-i.i blank) ∙ ap (λ (e : Entry). not (is_live c.args.time e)) (sym c.entry_at.ensures) ∙ ap not (sym c.if-not-is_live.ensures) in
    seek_on (is_free c.args.time) c.args.table.now c.loop-i.i (omega arith) t ∙ c.loop-i.invariant

pub returns : goal.returns
returns c =
    let is = free_is c.args.time c.args.table.now c.args.from in
    seek_last (is_free c.args.time) c.args.table.now c.args.from c.loop-i.i c.max.result c.max.ensures c.loop-i-test.false c.loop-i.auto.i-end (c.loop-i.invariant ∙ sym is) ∙ is
