use mathlib.Core.Path.{ap, ◌∙◌}
use Rattle.claims.specs.records.Own.{own_type}
use Rattle.own.specs.records.Records.{has_record, own_name, own_rdata}
use Rattle.facts.specs.tiebreak.Later.{is_later, tie}
use Rattle.wire.specs.message.Readable.{message_in}
use Rattle.facts.specs.tiebreak.Lists.{theirs, own_records}
use Rattle.std.specs.Bool.{then_some}
use Rattle.claims.specs.records.Own.{first_of}
use Rattle.facts.proofs.tiebreak.Ties.{as_list}
use Rattle.facts.specs.Facts.{theirs_later}
use Rattle.facts.proofs.Owned.{own_part}
use Rattle.facts.proofs.theirs_later.Goals as goal

pub tie_by-requires : goal.tie_by-requires
tie_by-requires c = c.requires

pub returns : goal.returns
unfolding theirs_later
returns c = let a = c.args in
    let f = c.first_of-first.ensures in
    let g = c.second_of-second.ensures in
    let n = c.part.ensures.bytes ∙ own_part _ _ c.own_name-name.ensures ∙ ap (own_name a.setup) f in
    let d = c.part-2.ensures.bytes ∙ own_part _ _ c.own_rdata-one.ensures ∙ ap (own_rdata a.setup) f in
    let e = c.part-3.ensures.bytes ∙ own_part _ _ c.own_rdata-two.ensures ∙ ap (own_rdata a.setup) g in
    let y = c.own_type.ensures ∙ ap own_type f in
    let z = c.own_type-2.ensures ∙ ap own_type g in
    let h = c.has_record.ensures ∙ ap (has_record a.setup) g in
    c.is_later.ensures ∙ ap is_later
    (c.tie_by.ensures
    ∙ (λ j. tie (theirs (n j) (message_in a.p.now a.l)) (own_records (record { first = y j; second = (c.then_some.ensures ∙ (λ k. then_some (h k) (z k))) j }) (d j) (e j)))
    ∙ ap (tie (theirs (own_name a.setup (first_of a.claim)) (message_in a.p.now a.l))) (as_list _ _ _ _ _))
