use Rattle.std.proofs.Common.{ap, ◌∙◌}
use Rattle.std.specs.Prelude.{ℕ, List, Ok}
use Rattle.trace.specs.reading.Events.{occurrence}
use Rattle.playing.specs.Playing.{made_behind}
use Rattle.playing.proofs.Laws.{data_found, found_fits, played_of}
use Rattle.playing.proofs.play.Goals as goal

pub behind_at-call-requires : goal.behind_at-call-requires
behind_at-call-requires c = let a = c.args in
    found_fits a.trace.now a.at _ c.next.ensures (λ i. (c.shared_slice_known-1.given i).fits) _
    (c.in-Ok-Some.is ∙ ap Ok c.in-Ok-Some.field-0-is)

pub returns-in-Ok-Some : goal.returns-in-Ok-Some
returns-in-Ok-Some c = let a = c.args in
    let e = c.in-Ok-Some.entry in
    let next = c.next.ensures in
    let is = c.in-Ok-Some.is ∙ ap Ok c.in-Ok-Some.field-0-is in
    let after = c.behind_at-call.ensures ∙ ap (λ (l : List ℕ). made_behind a.state (occurrence e.event l)) (data_found a.trace.now a.at _ next e is) in
    (λ i. record { turn = c.turn_of.ensures i; refusal = (after i).refusal; state = (after i).state }) ∙ played_of a.trace.now a.at _ next a.state _ is

pub returns-in-Ok-None : goal.returns-in-Ok-None
returns-in-Ok-None c = let a = c.args in
    played_of a.trace.now a.at _ c.next.ensures a.state _ (c.in-Ok-None.is ∙ ap Ok c.in-Ok-None.field-0-is)

pub returns-in-Err : goal.returns-in-Err
returns-in-Err c = let a = c.args in played_of a.trace.now a.at _ c.next.ensures a.state _ c.in-Err.is
