use mathlib.Core.Path.{◌∙◌}
use Rattle.wire.proofs.long_message.Rdata.{ends_as}
use Rattle.wire.proofs.long_message.ends_at.Goals as goal

pub returns : goal.returns
returns c = record { answer = c.eq.ensures ∙ ends_as _ _ _ _ c.past_name.ensures.answer; notes = c.past_name.ensures.notes }
