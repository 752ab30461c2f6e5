use Rattle.std.proofs.Common.{◌≡◌, ◌<◌, length, sym, ap, ◌∙◌, arith}
use Rattle.cache.specs.entries.Entries.{live_of}
use Rattle.cache.specs.entries.Cache.{entries_refusal}
use Rattle.cache.specs.declared.entries.Entry.{Entry}
use Rattle.cache.specs.lookup.Answers.{looked_refusal}
use Rattle.capi_cache.specs.Numbers.{refused_look}
use Rattle.capi_cache.proofs.Looking.{is-refused, is_found_lem, is-nothing, search_start, search_here, search_on, search_end}
use Rattle.capi_cache.proofs.kurgashel_cache_look_up.Goals as goal

pub returns-then-refusal-ne0 : goal.returns-then-refusal-ne0
returns-then-refusal-ne0 c =
    let is : c.look_refusal-refusal.result ≡ looked_refusal (entries_refusal c.args.time c.args.table.now) (length c.args.table.now) c.args.store.now c.args.name.now = cc (c.look_refusal-refusal.ensures, c.table_refusal.ensures) in
    c.refused_look.ensures ∙ ap refused_look is
    ∙ is-refused c.args.time c.args.table.now c.args.store.now c.args.name.now c.args.rtype c.args.from (λ z. c.if-refusal-ne0.true (is ∙ z))

pub loop-i-init : goal.loop-i-init
loop-i-init c = search_start c.args.time c.args.table.now c.args.store.now c.args.name.now c.args.rtype c.args.from

pub returns-then-is_live_of : goal.returns-then-is_live_of
returns-then-is_live_of c =
    let is : c.look_refusal-refusal.result ≡ looked_refusal (entries_refusal c.args.time c.args.table.now) (length c.args.table.now) c.args.store.now c.args.name.now = cc (c.look_refusal-refusal.ensures, c.table_refusal.ensures) in
    let less : c.loop-i.i < length c.args.table.now = omega (arith) in
    let live = ap (λ (e : Entry). live_of c.args.time c.args.store.now c.args.name.now c.args.rtype c.loop-i.i e) (sym c.entry_at.ensures) ∙ sym c.if-is_live_of.ensures in
    c.found_look.ensures
    ∙ is_found_lem c.args.time c.args.table.now c.args.store.now c.args.name.now c.args.rtype c.args.from (sym is ∙ c.if-refusal-ne0.false) c.loop-i.i
    (search_here c.args.time c.args.table.now c.args.store.now c.args.name.now c.args.rtype c.args.from c.loop-i.i c.loop-i.invariant less live)

pub loop-i-preserved : goal.loop-i-preserved
loop-i-preserved c =
    let less : c.loop-i.i < length c.args.table.now = omega (arith) in
    let live = ap (λ (e : Entry). live_of c.args.time c.args.store.now c.args.name.now c.args.rtype c.loop-i.i e) (sym c.entry_at.ensures) ∙ sym c.if-is_live_of.ensures in
    search_on c.args.time c.args.table.now c.args.store.now c.args.name.now c.args.rtype c.args.from c.loop-i.i c.loop-i.invariant less live

pub returns : goal.returns
returns c =
    let is : c.look_refusal-refusal.result ≡ looked_refusal (entries_refusal c.args.time c.args.table.now) (length c.args.table.now) c.args.store.now c.args.name.now = cc (c.look_refusal-refusal.ensures, c.table_refusal.ensures) in
    c.refused_look-2.ensures
    ∙ is-nothing c.args.time c.args.table.now c.args.store.now c.args.name.now c.args.rtype c.args.from (sym is ∙ c.if-refusal-ne0.false)
    (search_end c.args.time c.args.table.now c.args.store.now c.args.name.now c.args.rtype c.args.from c.loop-i.i c.loop-i.invariant (omega (arith)))
