use mathlib.Core.Path.{◌∙◌}
use Rattle.wire.proofs.case_folding.Letters.{lowered_as}
use Rattle.wire.proofs.case_folding.lowered.Goals as goal

pub returns : goal.returns
returns c = c.to_ascii_lowercase.ensures.value ∙ lowered_as c.args.b
