use mathlib.Core.Path.{◌∙◌}
use Rattle.capi_responder.proofs.codec.Wide.{same_bytes}
use Rattle.capi_responder.proofs.encoder.Parts.{laid_as}
use Rattle.capi_responder.proofs.encoder.put_number.Goals as goal

pub returns : goal.returns
returns c = (laid_as c.put.ensures (c.to_be_bytes.ensures ∙ same_bytes c.args.n), c.ranges.n.fits)
