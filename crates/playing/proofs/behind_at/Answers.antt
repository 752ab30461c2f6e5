use Rattle.std.proofs.Common.{ap, ◌∙◌}
use Rattle.trace.specs.reading.Events.{occurrence}
use Rattle.playing.specs.Playing.{made_behind}
use Rattle.playing.proofs.Laws.{same_bytes_lem}
use Rattle.playing.proofs.behind_at.Goals as goal

pub returns : goal.returns
returns c = let a = c.args in
    c.behind.ensures
    ∙ ap (made_behind a.state)
    (ap (occurrence a.event) c.part.ensures.bytes ∙ same_bytes_lem a.event _ c.requires _ c.bytes-n.ensures.len _ c.bytes-n.ensures.out)
