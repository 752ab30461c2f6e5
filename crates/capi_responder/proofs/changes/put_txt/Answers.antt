use mathlib.Core.Path.{ap, ◌∙◌}
use Prim.Native.Nat.{◌+◌}
use lib.Seq.{sets}
use Rattle.capi_responder.specs.codec.Layout as layout
use Rattle.capi_responder.proofs.Renewing.{txt-bytes}
use Rattle.capi_responder.proofs.changes.put_txt.Goals as goal

pub returns : goal.returns
returns c = let a = c.args in
    txt-bytes a.state.now _ _ _ a.txt.now c.put.ensures c.put-2.ensures
    (c.put-3.ensures ∙ ap (sets c.put-2.new.out (layout.txt + 400)) c.to_be_bytes.ensures) c.requires
