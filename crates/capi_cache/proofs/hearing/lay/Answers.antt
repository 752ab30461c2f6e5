use mathlib.Core.Path.{ap, ◌∙◌}
use lib.Seq.{sets}
use Rattle.capi_cache.proofs.hearing.lay.Goals as goal

pub returns : goal.returns
returns c = c.put.ensures ∙ ap (sets _ _) c.part.ensures.bytes
