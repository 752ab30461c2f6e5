use mathlib.Core.Path.{ap, ◌∙◌}
use Rattle.capi_responder.specs.codec.Layout as layout
use Rattle.capi_responder.specs.codec.Parts.{when_at, sent_at}
use Rattle.capi_responder.proofs.codec.sent_at.Goals as goal

pub returns : goal.returns
unfolding sent_at
returns c = c.when_at.ensures ∙ ap (λ k. when_at c.args.b.now (layout.multicast k)) c.index_of.ensures
