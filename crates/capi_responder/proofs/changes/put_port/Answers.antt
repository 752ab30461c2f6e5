use mathlib.Core.Path.{ap, ◌∙◌}
use native.Mathlib.Omega.{arith}
use lib.Seq.{sets}
use Rattle.capi_responder.specs.codec.Layout as layout
use Rattle.capi_responder.proofs.Renewing.{port-bytes}
use Rattle.capi_responder.proofs.changes.put_port.Goals as goal

pub returns : goal.returns
returns c = let a = c.args in c.put.ensures ∙ ap (sets a.state.now layout.port) c.to_be_bytes.ensures ∙ port-bytes a.state.now a.port (omega arith)
