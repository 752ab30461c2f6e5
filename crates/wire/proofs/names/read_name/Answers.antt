use mathlib.Core.Path.{sym, ◌∙◌}
use Rattle.wire.proofs.names.Walked.{seen_start}
use Rattle.wire.proofs.names.read_name.Goals as goal

pub returns : goal.returns
returns c = c.pass.ensures ∙ sym (seen_start _ _)
