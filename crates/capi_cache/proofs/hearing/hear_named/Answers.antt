use mathlib.Core.Path.{◌∙◌}
use native.Mathlib.Omega.{arith}
use Rattle.capi_cache.proofs.hearing.Answers.{around, named-short, named-malformed, span_small, named-over, named-elsewhere, named-heard}
use Rattle.capi_cache.proofs.hearing.hear_named.Goals as goal

pub overflow_add-before : goal.overflow_add-before
overflow_add-before c = omega (arith, around c.args.p.now c.args.f c.requires.slot_len.1 c.args.form c.requires.form_value.0 c.requires.form_value.1)

pub returns-then-f-before : goal.returns-then-f-before
returns-then-f-before c = let k = named-short c.args.p.now c.args.f c.requires.slot_len.1 c.args.form c.requires.form_value.0 c.requires.form_value.1 _ (omega arith) in (k.0, k.1)

pub slice_bounds-name_into-count : goal.slice_bounds-name_into-count
slice_bounds-name_into-count c = omega (arith, around c.args.p.now c.args.f c.requires.slot_len.1 c.args.form c.requires.form_value.0 c.requires.form_value.1, c.lay.auto.slot, c.requires.slot_len.0)

pub slice_bounds-name_into-start : goal.slice_bounds-name_into-start
slice_bounds-name_into-start c = omega (arith, around c.args.p.now c.args.f c.requires.slot_len.1 c.args.form c.requires.form_value.0 c.requires.form_value.1, c.lay.auto.slot, c.requires.slot_len.0)

pub overflow_add-place-2 : goal.overflow_add-place-2
overflow_add-place-2 c = omega (arith, around c.args.p.now c.args.f c.requires.slot_len.1 c.args.form c.requires.form_value.0 c.requires.form_value.1, span_small c.args.p.now c.args.f c.requires.slot_len.1 c.args.form c.requires.form_value.0 c.requires.form_value.1 (omega (arith, c.if-f-before.false)) _ c.name_into.ensures.answer _ c.requires.slot_len.0 _ c.lay.ensures _ c.in_ok-span.was _ c.name_into.ensures.bytes)

pub returns-then-span-to : goal.returns-then-span-to
returns-then-span-to c = (named-elsewhere c.args.p.now c.args.f c.requires.slot_len.1 c.args.form c.requires.form_value.0 c.requires.form_value.1 (omega (arith, c.if-f-before.false)) _ c.name_into.ensures.answer _ c.requires.slot_len.0 _ c.lay.ensures _ c.in_ok-span.was _ c.name_into.ensures.bytes (λ z. omega (arith, z)), named-over c.args.p.now c.args.f c.requires.slot_len.1 c.args.form c.requires.form_value.0 c.requires.form_value.1 (omega (arith, c.if-f-before.false)) _ c.name_into.ensures.answer _ c.requires.slot_len.0 _ c.lay.ensures _ c.in_ok-span.was _ c.name_into.ensures.bytes _ c.lay-2.ensures)

pub overflow_add-result : goal.overflow_add-result
overflow_add-result c = omega (arith, around c.args.p.now c.args.f c.requires.slot_len.1 c.args.form c.requires.form_value.0 c.requires.form_value.1, span_small c.args.p.now c.args.f c.requires.slot_len.1 c.args.form c.requires.form_value.0 c.requires.form_value.1 (omega (arith, c.if-f-before.false)) _ c.name_into.ensures.answer _ c.requires.slot_len.0 _ c.lay.ensures _ c.in_ok-span.was _ c.name_into.ensures.bytes)

pub overflow_add-result-2 : goal.overflow_add-result-2
overflow_add-result-2 c = omega (arith, around c.args.p.now c.args.f c.requires.slot_len.1 c.args.form c.requires.form_value.0 c.requires.form_value.1, span_small c.args.p.now c.args.f c.requires.slot_len.1 c.args.form c.requires.form_value.0 c.requires.form_value.1 (omega (arith, c.if-f-before.false)) _ c.name_into.ensures.answer _ c.requires.slot_len.0 _ c.lay.ensures _ c.in_ok-span.was _ c.name_into.ensures.bytes)

pub returns : goal.returns
returns c = (named-heard c.args.p.now c.args.f c.requires.slot_len.1 c.args.form c.requires.form_value.0 c.requires.form_value.1 (omega (arith, c.if-f-before.false)) _ c.name_into.ensures.answer _ c.requires.slot_len.0 _ c.lay.ensures _ c.in_ok-span.was _ c.name_into.ensures.bytes (omega arith), named-over c.args.p.now c.args.f c.requires.slot_len.1 c.args.form c.requires.form_value.0 c.requires.form_value.1 (omega (arith, c.if-f-before.false)) _ c.name_into.ensures.answer _ c.requires.slot_len.0 _ c.lay.ensures _ c.in_ok-span.was _ c.name_into.ensures.bytes _ c.lay-2.ensures)

pub returns-in_err-span : goal.returns-in_err-span
returns-in_err-span c = let k = named-malformed c.args.p.now c.args.f c.requires.slot_len.1 c.args.form c.requires.form_value.0 c.requires.form_value.1 (omega (arith, c.if-f-before.false)) _ c.name_into.ensures.answer _ c.requires.slot_len.0 _ c.lay.ensures c.in_err-span.was _ c.name_into.ensures.bytes in (c.from_residual.ensures ∙ k.0, k.1)
