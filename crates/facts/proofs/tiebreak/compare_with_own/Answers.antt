use Rattle.facts.proofs.tiebreak.Turns.{seen_record}
use Rattle.facts.proofs.tiebreak.compare_with_own.Goals as goal

pub returns : goal.returns
returns c = let a = c.args in
    seen_record a.p.now a.f c.requires _
    c.open-o.ensures _ c.view-seen.ensures.bytes _ _ c.compare_records.ensures
