use Rattle.std.proofs.Common.{◌∙◌, sym, ap, length, arith}
use Rattle.capi_cache.specs.Numbers.{refused_take}
use Rattle.capi_cache.proofs.Taking.{refused_entries, refused_store, refused_message, taking, taking_after, a-query, a-response}
use Rattle.capi_cache.proofs.kurgashel_cache_take.Goals as goal

pub returns-then-entries-ne0 : goal.returns-then-entries-ne0
returns-then-entries-ne0 c =
    let r = refused_entries c.args.time c.args.table.now c.args.store.now c.args.port c.args.message.now (λ z. c.if-entries-ne0.true (c.table_refusal-entries.ensures ∙ z)) in
    (c.refused_take.ensures ∙ ap refused_take c.table_refusal-entries.ensures ∙ r.0, r.1)

pub returns-then-not-is_store_of : goal.returns-then-not-is_store_of
returns-then-not-is_store_of c =
    let r = refused_store c.args.time c.args.table.now c.args.store.now c.args.port c.args.message.now (sym c.table_refusal-entries.ensures ∙ c.if-entries-ne0.false) (sym c.if-not-is_store_of.ensures) in
    (c.refused_take-then-not-is_store_of.ensures ∙ r.0, r.1)

pub returns-in-Err : goal.returns-in-Err
returns-in-Err c =
    let r = refused_message c.args.time c.args.table.now c.args.store.now c.args.port c.args.message.now (sym c.table_refusal-entries.ensures ∙ c.if-entries-ne0.false) (sym c.if-not-is_store_of.ensures)
    _ c.read_from.ensures c.in-Err.refusal c.in-Err.is in
    (c.refused_take-in-Err.ensures ∙ ap refused_take c.number.ensures ∙ r.0, r.1)

pub returns-then-l-lt32768 : goal.returns-then-l-lt32768
returns-then-l-lt32768 c =
    let r = a-query c.args.time c.args.table.now c.args.store.now c.args.port c.args.message.now (sym c.table_refusal-entries.ensures ∙ c.if-entries-ne0.false) (sym c.if-not-is_store_of.ensures)
    _ c.read_from.ensures c.in-Ok.l c.in-Ok.is (omega arith) in
    (c.counted_take.ensures ∙ r.0, r.1)

pub take_section-answers-requires : goal.take_section-answers-requires
take_section-answers-requires c =
    let t = taking c.args.time c.args.table.now c.args.store.now c.args.port c.args.message.now (sym c.table_refusal-entries.ensures ∙ c.if-entries-ne0.false) (sym c.if-not-is_store_of.ensures) in
    ((t _ c.read_from.ensures, (omega arith, omega arith)), ap length c.blank_slot-slot.ensures)

pub take_section-all-requires : goal.take_section-all-requires
take_section-all-requires c =
    let t = taking_after c.args.time c.args.table.now c.args.store.now c.args.port c.args.message.now (sym c.table_refusal-entries.ensures ∙ c.if-entries-ne0.false) (sym c.if-not-is_store_of.ensures) in
    let k = c.take_section-answers in (
      (t _ c.read_from.ensures k.new.table k.new.store k.auto.table k.auto.store, (omega (arith, k.ensures.most.0), omega (arith, k.ensures.most.1))),
      k.auto.slot ∙ ap length c.blank_slot-slot.ensures,
    )

pub returns-else-l-lt32768 : goal.returns-else-l-lt32768
returns-else-l-lt32768 c =
    let a = c.take_section-answers in
    let b = c.take_section-all in
    let r = a-response c.args.time c.args.table.now c.args.store.now c.args.port c.args.message.now (sym c.table_refusal-entries.ensures ∙ c.if-entries-ne0.false) (sym c.if-not-is_store_of.ensures)
    _ c.read_from.ensures c.in-Ok.l c.in-Ok.is (omega arith) a.result a.new.table a.new.store a.ensures.takes b.result b.new.table b.new.store b.ensures.takes in
    (c.counted_take-in-Ok.ensures ∙ r.0, r.1)
