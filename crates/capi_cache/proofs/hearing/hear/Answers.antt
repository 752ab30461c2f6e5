use mathlib.Core.Path.{◌∙◌}
use Rattle.capi_cache.proofs.hearing.Answers.{no_owner, owner_size, no_record_lem, a-record, rdata-within}
use Rattle.capi_cache.proofs.hearing.hear.Goals as goal

pub returns-in_err-span : goal.returns-in_err-span
returns-in_err-span c = let k = no_owner _ _ _ c.requires _ c.name_into.ensures.answer _ c.name_into.ensures.bytes c.in_err-span.was in (c.from_residual.ensures ∙ k.0, k.1)

pub hear_rdata-requires : goal.hear_rdata-requires
hear_rdata-requires c = (owner_size _ _ _ c.requires _ c.name_into.ensures.answer _ c.name_into.ensures.bytes, rdata-within _ _ _ c.requires _ c.name_into.ensures.answer _ c.name_into.ensures.bytes _ c.in_ok-span.was _ c.record_behind.ensures _ c.in_ok-f.was)

pub returns : goal.returns
returns c = a-record _ _ _ c.requires _ c.name_into.ensures.answer _ c.name_into.ensures.bytes _ c.in_ok-span.was _ c.record_behind.ensures _ c.in_ok-f.was _ _ c.hear_rdata.ensures

pub returns-in_err-f : goal.returns-in_err-f
returns-in_err-f c = let k = no_record_lem _ _ _ c.requires _ c.name_into.ensures.answer _ c.name_into.ensures.bytes _ c.in_ok-span.was _ c.record_behind.ensures c.in_err-f.was in (c.from_residual-in_err-f.ensures ∙ k.0, k.1)
